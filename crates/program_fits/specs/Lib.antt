pub mod ProgramFits
