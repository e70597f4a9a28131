pub mod Sides
pub mod Haplotypes
pub mod Answer
