-- A ticket comes back.
use Rattle.std.proofs.Common.{◌≡◌, ℕ, Bool, List, sym, ◌∙◌, ap, subst}
use Rattle.lt_trace.specs.Elements.{Story}
use Rattle.lt_state.specs.State.{Core, Ticket}
use Rattle.lt_state.specs.Stands.{StandsFor}
use Rattle.lt_events.specs.Cores.{without, with_released}
use Rattle.lt_events.proofs.Tickets.{release_stands}

pub released_from : (c old : Core) (number : ℕ) (left : List Ticket) → c ≡ old → left ≡ without number c.tickets → record c { tickets = left } ≡ with_released old number
released_from c old number left is left_is = ap (λ (ts : List Ticket). record c { tickets = ts }) left_is ∙ ap (λ (x : Core). with_released x number) is

pub released_stands_from : (told : Bool) (c old : Core) (number : ℕ) (left : List Ticket) → c ≡ old → left ≡ without number c.tickets → (s : Story) → StandsFor told old s → StandsFor told (record c { tickets = left }) s
released_stands_from told c old number left is left_is s stands =
    subst (λ (x : Core). StandsFor told x s) (sym (released_from c old number left is left_is)) (release_stands told old s number stands)
