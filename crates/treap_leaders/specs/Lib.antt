-- The definition that the contract of `treap_leaders::hand_down` cites.
pub mod Steps
