pub mod SlotLaws
pub mod SlotReads
pub mod RequestorRoles
pub mod Places
