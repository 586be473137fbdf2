pub mod Def_begun
