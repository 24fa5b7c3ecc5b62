-- How a line is spelled, token by token: a client's name, a moment, and one command; or nothing but a remark.
use Rattle.std.specs.Prelude.{◌≡◌, ◌⊎◌, ℕ, ◌-◌, ◌^◌, ◌≤◌, Bool, true, false, ◌==◌, List, [], ◌∷◌, ◌++◌, length, Option, Some, None, if◌then◌else◌, codes}
use Rattle.std.specs.List.{list_all}
use Rattle.lt_schema.specs.Names.{is_name, is_name_byte}
use Rattle.lt_schema.specs.declared.kind.Kind.{Kind}
use Rattle.lt_schema.specs.declared.kind.Kind.TheVariants.{Int32, Int64, Time, Text as TextKind, Blob as BlobKind}
use Rattle.lt_schema.specs.declared.value.Value.{Value}
use Rattle.lt_schema.specs.declared.change.Change.{Change}
use Rattle.lt_schema.specs.declared.change.Change.TheVariants.{Append, Widen}
use Rattle.lt_schema.specs.Shapes.{ColumnShape}
use Rattle.lt_schema.specs.Values.{blank_of}
use Rattle.lt_command.specs.declared.command.Command.{Command}
use Rattle.lt_command.specs.declared.command.Command.TheVariants.{Insert, Scan, Latest, Flush, Upkeep, Alter, Tablets}
use Rattle.lt_command.specs.declared.command.Line.{Line}
use Rattle.lt_command.specs.declared.command.Line.TheVariants as lines
use Rattle.lt_command.specs.declared.query.Edge.{Edge}
use Rattle.lt_command.specs.declared.query.Query.{Query}
use Rattle.lt_lang.specs.Numbers.{IsCount, IsMoment}
use Rattle.lt_lang.specs.Tokens.{is_space, is_ended, skipped}
use Rattle.lt_lang.specs.Literals.{IsLit, AreLits, IsToken}

-- a token behind spaces; behind it nothing stands, or a space
pub record Next (token bytes rest : List ℕ) : Type 0 where
  pub gap : List ℕ
  pub spelled : bytes ≡ gap ++ (token ++ rest)
  pub spaces : list_all is_space gap ≡ true
  pub is : IsToken token
  pub ended : is_ended rest ≡ true

-- the bytes begin with these tokens, with spaces before each, and then come the rest
abbrev pub Front : List (List ℕ) → List ℕ → List ℕ → Type 0
Front [] bytes rest = bytes ≡ rest
Front (token ∷ tokens) bytes rest = (mid : List ℕ) × Next token bytes mid × Front tokens mid rest

-- 1 to 32 of a to z, 0 to 9 and _
pub record IsClient (name : List ℕ) : Type 0 where
  pub some : 1 ≤ length name
  pub few : length name ≤ 32
  pub bytes : list_all is_name_byte name ≡ true

-- @ and a number below 2^62
pub record IsMomentToken (token : List ℕ) (moment : ℕ) : Type 0 where
  pub digits : List ℕ
  pub spelled : token ≡ codes "@" ++ digits
  pub count : IsMoment digits moment

-- at most one token, which spells the value where there is one
abbrev pub IsOptional : {X : Type 0} → (List ℕ → X → Type 0) → List (List ℕ) → Option X → Type 0
IsOptional Is tokens None = tokens ≡ []
IsOptional Is tokens (Some x) = (token : List ℕ) × (tokens ≡ token ∷ []) × Is token x

-- one of two words, by whether the edge excludes the keys that begin with its values, and one or more values
pub record IsSomeEdge (weak strict : List ℕ) (tokens : List (List ℕ)) (edge : Edge) : Type 0 where
  pub literals : List (List ℕ)
  pub spelled : tokens ≡ (if edge.strict then strict else weak) ∷ literals
  pub values : AreLits literals edge.values
  pub some : 1 ≤ length literals

-- an end of a range of keys may be left out
abbrev pub IsEdge : List ℕ → List ℕ → List (List ℕ) → Option Edge → Type 0
IsEdge weak strict tokens None = tokens ≡ []
IsEdge weak strict tokens (Some edge) = IsSomeEdge weak strict tokens edge

pub record IsSomeTimes (tokens : List (List ℕ)) (from to : ℕ) : Type 0 where
  pub first : List ℕ
  pub last : List ℕ
  pub spelled : tokens ≡ codes "time" ∷ first ∷ last ∷ []
  pub first_count : IsCount first from
  pub last_count : IsCount last to

-- the least and the greatest time; where they are left out, all times
abbrev pub IsTimes : List (List ℕ) → ℕ → ℕ → Type 0
IsTimes tokens from to = ((tokens ≡ []) × (from ≡ 0) × (to ≡ 2 ^ 62 - 1)) ⊎ IsSomeTimes tokens from to

abbrev pub IsDirection : List (List ℕ) → Bool → Type 0
IsDirection tokens down = ((tokens ≡ []) × (down ≡ false)) ⊎ ((tokens ≡ codes "asc" ∷ []) × (down ≡ false)) ⊎ ((tokens ≡ codes "desc" ∷ []) × (down ≡ true))

pub record IsSomeLimit (tokens : List (List ℕ)) (limit : ℕ) : Type 0 where
  pub token : List ℕ
  pub spelled : tokens ≡ codes "limit" ∷ token ∷ []
  pub count : IsCount token limit

-- how many rows at most; 1,000 where it is left out
abbrev pub IsLimit : List (List ℕ) → ℕ → Type 0
IsLimit tokens limit = ((tokens ≡ []) × (limit ≡ 1000)) ⊎ IsSomeLimit tokens limit

-- the parts of a scan, each of which may be left out, in this order
pub record IsScan (tokens : List (List ℕ)) (query : Query) : Type 0 where
  pub lo : List (List ℕ)
  pub hi : List (List ℕ)
  pub times : List (List ℕ)
  pub direction : List (List ℕ)
  pub limit : List (List ℕ)
  pub spelled : tokens ≡ lo ++ (hi ++ (times ++ (direction ++ limit)))
  pub lo_edge : IsEdge (codes "ge") (codes "gt") lo query.lo
  pub hi_edge : IsEdge (codes "le") (codes "lt") hi query.hi
  pub all_times : IsTimes times query.from query.to
  pub down : IsDirection direction query.down
  pub most : IsLimit limit query.limit

abbrev pub kind_word : Kind → List ℕ
kind_word Int32 = codes "int32"
kind_word Int64 = codes "int64"
kind_word Time = codes "time"
kind_word TextKind = codes "text"
kind_word BlobKind = codes "blob"

-- a literal, of whatever kind; where it is left out, the kind's blank value
abbrev pub IsDefault : Kind → List (List ℕ) → Value → Type 0
IsDefault kind tokens value = ((tokens ≡ []) × (value ≡ blank_of kind)) ⊎ ((token : List ℕ) × (tokens ≡ token ∷ []) × IsLit token value)

pub record IsAppend (tokens : List (List ℕ)) (column : ColumnShape) : Type 0 where
  pub rest : List (List ℕ)
  pub spelled : tokens ≡ codes "append" ∷ column.name ∷ kind_word column.kind ∷ rest
  pub name : is_name column.name ≡ true
  pub default : IsDefault column.kind rest column.default

abbrev pub IsChange : List (List ℕ) → Change → Type 0
IsChange tokens (Append column) = IsAppend tokens column
IsChange tokens (Widen name) = (tokens ≡ codes "widen" ∷ name ∷ []) × (is_name name ≡ true)

-- behind a command's word
abbrev pub IsRest : List (List ℕ) → Command → Type 0
IsRest tokens (Insert row) = AreLits tokens row
IsRest tokens (Scan query) = IsScan tokens query
IsRest tokens (Latest prefix) = AreLits tokens prefix
IsRest tokens (Flush tablet) = IsOptional IsCount tokens tablet
IsRest tokens Upkeep = tokens ≡ []
IsRest tokens (Alter change) = IsChange tokens change
IsRest tokens Tablets = tokens ≡ []

abbrev pub command_word : Command → List ℕ
command_word (Insert row) = codes "insert"
command_word (Scan query) = codes "scan"
command_word (Latest prefix) = codes "latest"
command_word (Flush tablet) = codes "flush"
command_word Upkeep = codes "upkeep"
command_word (Alter change) = codes "alter"
command_word Tablets = codes "tablets"

-- NAME: @MOMENT COMMAND, of which the moment may be left out
pub record AreTokens (tokens : List (List ℕ)) (client : List ℕ) (moment : Option ℕ) (command : Command) : Type 0 where
  pub moment_tokens : List (List ℕ)
  pub rest : List (List ℕ)
  pub spelled : tokens ≡ (client ++ codes ":") ∷ (moment_tokens ++ command_word command ∷ rest)
  pub name : IsClient client
  pub when : IsOptional IsMomentToken moment_tokens moment
  pub means : IsRest rest command

-- these tokens, and spaces behind the last
pub record IsSentence (bytes client : List ℕ) (moment : Option ℕ) (command : Command) : Type 0 where
  pub tokens : List (List ℕ)
  pub rest : List ℕ
  pub front : Front tokens bytes rest
  pub ends : list_all is_space rest ≡ true
  pub are : AreTokens tokens client moment command

-- some lawful line begins with these tokens
pub record Begins (tokens : List (List ℕ)) : Type 0 where
  pub more : List (List ℕ)
  pub client : List ℕ
  pub moment : Option ℕ
  pub command : Command
  pub are : AreTokens (tokens ++ more) client moment command

-- The tokens before a place stand: some lawful line begins with them. The place is the next token's, or the line's end.
-- The client is the one that the first token names, or ? where it names none.
pub record IsBad (bytes client : List ℕ) (at : ℕ) : Type 0 where
  pub tokens : List (List ℕ)
  pub rest : List ℕ
  pub front : Front tokens bytes rest
  pub begins : Begins tokens
  pub place : at ≡ length bytes - length (skipped rest)
  pub named : ((tokens ≡ []) × (client ≡ codes "?")) ⊎ ((others : List (List ℕ)) × (tokens ≡ (client ++ codes ":") ∷ others))

-- nothing, or a # first
abbrev pub is_remark : List ℕ → Bool
is_remark [] = true
is_remark (b ∷ bs) = b == 35

-- spaces alone, or a remark behind spaces
pub record IsSkipped (bytes : List ℕ) : Type 0 where
  pub gap : List ℕ
  pub remark : List ℕ
  pub spelled : bytes ≡ gap ++ remark
  pub spaces : list_all is_space gap ≡ true
  pub is : is_remark remark ≡ true

-- The bytes spell the line. A bad line is one that nothing spells as anything else, and the tokens before its place stand.
abbrev pub IsSpelled : List ℕ → Line → Type 0
IsSpelled bytes lines.Skip = IsSkipped bytes
IsSpelled bytes (lines.Command client moment command) = IsSentence bytes client moment command
IsSpelled bytes (lines.Bad client at) = IsBad bytes client at × (IsSkipped bytes → ⊥) × ((other : List ℕ) (moment : Option ℕ) (command : Command) → IsSentence bytes other moment command → ⊥)
