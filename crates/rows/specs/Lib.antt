pub mod Op
pub mod Checks
pub mod Rising
pub mod OpLaws
pub mod RisingLaws
