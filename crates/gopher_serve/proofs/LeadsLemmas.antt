-- Any number of steps, one after another.
use Rattle.gopher_item.specs.Leads.{Leads, stays, goes}

pub leads_stays : {A : Type 0} (step : A → A → Type 0) (a : A) → Leads step a a
leads_stays step a = stays

pub leads_one : {A : Type 0} (step : A → A → Type 0) (a b : A) → step a b → Leads step a b
leads_one step a b one = goes stays one

pub leads_joins : {A : Type 0} (step : A → A → Type 0) (a b c : A) → Leads step a b → Leads step b c → Leads step a c
leads_joins step a b c first stays = first
leads_joins step a b c first (goes {middle} more one) = goes (leads_joins step a b middle first more) one
