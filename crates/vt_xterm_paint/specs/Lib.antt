pub mod Repaint
