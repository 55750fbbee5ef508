-- The definitions that the contracts of `treap_ranks` cite.
pub mod Steps
