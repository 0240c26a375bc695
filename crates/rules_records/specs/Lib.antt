pub mod Demand3RecordCases
pub mod Demand3Records
pub mod RecordContracts
pub mod SavedRecords
