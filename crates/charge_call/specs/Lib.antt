pub mod ChargeCalls
