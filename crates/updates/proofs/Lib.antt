mod RecordPuts
pub mod CellPuts
