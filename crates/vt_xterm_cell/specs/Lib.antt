pub mod Look
pub mod Characters
pub mod Words
pub mod Back
pub mod Cells
pub mod Rendition
pub mod Kinds
pub mod Wide
