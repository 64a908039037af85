mod RoundTrips
mod Worked
