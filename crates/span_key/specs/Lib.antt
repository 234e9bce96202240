pub mod Spans
pub mod Scopes
