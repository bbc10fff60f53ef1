pub mod Inner
