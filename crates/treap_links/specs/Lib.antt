-- The definitions that the contracts of `treap_links` cite.
pub mod Links
pub mod Nearest
