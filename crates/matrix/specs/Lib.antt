pub mod Algorithm
