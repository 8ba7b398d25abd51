pub mod SeenFacts
pub mod FieldFacts
pub mod RecordFacts
pub mod ColumnFacts
