pub mod LastRounds
pub mod KnownSessions
pub mod Seqs
