-- The events of a crawl as data, with the contents of pages and openings. The number of a place is
-- its index, from 0, among the known places.
use Rattle.std.specs.Prelude.{ℕ}
use Rattle.gopher_catalogue.specs.declared.event.Why.{Why}
use Rattle.gopher_catalogue.specs.declared.event.Why.TheVariants.{Connect, Read, Write, TooLong, NoMemory}
pub use Rattle.gopher_catalogue.specs.Opening.{OpeningData}
pub use Rattle.gopher_catalogue.specs.declared.event.EventData.{EventData}
pub use Rattle.gopher_catalogue.specs.declared.event.EventData.TheVariants.{Opened, Claimed, Found, Failed}

-- the number of a reason
abbrev pub why_code : Why → ℕ
why_code Connect = 1
why_code Read = 2
why_code Write = 3
why_code TooLong = 4
why_code NoMemory = 5
