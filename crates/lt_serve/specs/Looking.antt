-- What a look through the lines of an input finds.
use Rattle.std.specs.Prelude.{◌≡◌, ◌+◌, ◌≤◌, ℕ, List, ◌++◌, length, Option}
use Rattle.lt_command.specs.declared.command.Line.{Line}
use Rattle.lt_serve.specs.Session.{lines_of, client_of, AllMayAnswer, IsBuilt, HasOtherLine}
use Rattle.lt_serve.specs.declared.looking.Outlook.{Outlook}
use Rattle.lt_serve.specs.declared.looking.Outlook.TheVariants.{Clear, Other}

-- each line may be answered, and whose they are; or the first line that may not be
abbrev pub IsOutlook : List ℕ → Outlook → Type 0
IsOutlook input (Clear client) = IsBuilt input × (client ≡ client_of (lines_of input))
IsOutlook input (Other line) = HasOtherLine input line

-- the front of the input that was read may be answered
pub record LookedThrough (input rest : List ℕ) (client : Option (List ℕ)) (number : ℕ) : Type 0 where
  pub lines : List Line
  pub cut : lines_of input ≡ lines ++ lines_of rest
  pub counted : length lines ≡ number
  pub progress : number + length rest ≤ length input
  pub client_is : client ≡ client_of lines
  pub built : AllMayAnswer client lines
