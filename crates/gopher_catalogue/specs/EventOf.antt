-- The data of an event of the program.
use Rattle.std.specs.Arc.{arc_value}
use Rattle.gopher_catalogue.specs.declared.event.Event.{Event}
use Rattle.gopher_catalogue.specs.declared.event.Event.TheVariants.{Opened, Claimed, Found, Failed}
use Rattle.gopher_catalogue.specs.Event.{EventData, Opened as OpenedData, Claimed as ClaimedData, Found as FoundData, Failed as FailedData}

-- an event with the contents of its opening or page
abbrev pub event_data : Event → EventData
event_data (Opened opening) = OpenedData (arc_value opening)
event_data (Claimed number) = ClaimedData number
event_data (Found number page) = FoundData number (arc_value page)
event_data (Failed number why) = FailedData number why
