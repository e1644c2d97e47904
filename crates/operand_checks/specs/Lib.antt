pub mod OperandChecks
