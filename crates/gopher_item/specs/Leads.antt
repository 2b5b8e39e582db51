-- Any number of steps, one after another.

-- any number of steps lead from one state to another
pub data Leads {A : Type 0} (step : A → A → Type 0) (from : A) : A → Type 0 where
  stays : Leads step from from
  goes : {middle to : A} → Leads step from middle → step middle to → Leads step from to
