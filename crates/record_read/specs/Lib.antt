pub mod SeatChecks
