pub mod UpidBytes
