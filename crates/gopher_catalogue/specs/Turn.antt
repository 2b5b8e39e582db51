-- The result of a claim, as data.
use Rattle.std.specs.Arc.{arc_value}
use Rattle.gopher_catalogue.specs.declared.answer.Turn.{Turn}
use Rattle.gopher_catalogue.specs.declared.answer.Turn.TheVariants.{Take, Idle, Finished}
use Rattle.gopher_catalogue.specs.Step.{TurnData, Take as TakeData, Idle as IdleData, Finished as FinishedData}

-- a turn with the contents of its place
abbrev pub turn_data : Turn → TurnData
turn_data (Take claim) = TakeData claim.number (arc_value claim.place)
turn_data Idle = IdleData
turn_data Finished = FinishedData

-- the claim takes a place
abbrev pub IsTake : TurnData → Type 0
IsTake (TakeData number place) = Unit {0}
IsTake turn = ⊥
