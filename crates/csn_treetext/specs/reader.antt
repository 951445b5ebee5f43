-- What the private parts of the reader are said by: a machine that takes a text byte by byte, and how far
-- the code, which takes many bytes at once, has come by it. They are read only with the proofs. No public
-- contract rests on them, nor does a definition outside this folder: what bytes are the text of a tree is
-- `Text` and `Fits`, and where they are none is `Place`.
pub mod FrameCode
pub mod Numeral
pub mod Mode
pub mod Machine
pub mod Reading
