pub mod OperateRowValues
pub mod PassingRuns
pub mod RowLaws
pub mod RowRuns
pub mod RowsOfWords
