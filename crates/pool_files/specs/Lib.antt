pub mod FileSizes
