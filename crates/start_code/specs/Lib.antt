pub mod StartCode
