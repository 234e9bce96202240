pub mod KeyOrder
pub mod SpanLaws
pub mod BoundLaws
