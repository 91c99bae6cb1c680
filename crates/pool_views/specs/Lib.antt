pub mod ViewSizes
