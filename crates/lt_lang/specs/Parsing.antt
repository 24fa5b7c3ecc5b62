-- Reading a line token by token. A reader gives what it found and the bytes behind it, or how many bytes of the line are
-- left from the first token on that can't stand in its place; none are left where the line ends too early.
use Rattle.std.specs.Prelude.{◌≡◌, ⊤, ℕ, zero, suc, ◌-◌, ◌^◌, ℤ, Bool, true, false, ◌&&◌, ◌==◌, nat_eq, nat_le, nat_lt, List, [], ◌∷◌, length, take, drop, Option, Some, None, Result, Ok, Err, if◌then◌else◌, codes}
use Rattle.std.specs.List.{prefix_len}
use Rattle.std.specs.Option.{option_map}
use Rattle.std.specs.Str.{is_utf8}
use Rattle.std.specs.Cmp.Lexicographic.{pointwise}
use Rattle.lt_schema.specs.Names.{is_name, is_name_byte, kind_named}
use Rattle.lt_schema.specs.Values.{blank_of}
use Rattle.lt_hex.specs.Digits.{hex_pair, hex_of}
use Rattle.lt_schema.specs.declared.kind.Kind.{Kind}
use Rattle.lt_schema.specs.declared.value.Value.{Value}
use Rattle.lt_schema.specs.declared.value.Value.TheVariants.{Int, Text, Blob}
use Rattle.lt_schema.specs.declared.change.Change.{Change}
use Rattle.lt_schema.specs.declared.change.Change.TheVariants.{Append, Widen}
use Rattle.lt_schema.specs.Shapes.{ColumnShape}
use Rattle.lt_command.specs.declared.command.Command.{Command}
use Rattle.lt_command.specs.declared.command.Command.TheVariants.{Insert, Scan, Latest, Flush, Upkeep, Alter, Tablets}
use Rattle.lt_command.specs.declared.command.Line.{Line}
use Rattle.lt_command.specs.declared.command.Line.TheVariants as lines
use Rattle.lt_command.specs.declared.query.Edge.{Edge}
use Rattle.lt_command.specs.declared.query.Query.{Query}
use Rattle.lt_lang.specs.declared.stop.Stop.{Stop}
use Rattle.lt_lang.specs.declared.stop.Stop.TheVariants as stops
use Rattle.lt_lang.specs.Reading.{after, count_at, moment_at, integer_at}
use Rattle.lt_lang.specs.Tokens.{is_ended, is_quoted, skipped, word_of, behind}
use Rattle.lt_lang.specs.Literals.{is_bare}
use Rattle.lt_lang.specs.Sentences.{is_remark}

infixl 10 ◌>>=◌
abbrev pub ◌>>=◌ : {A B : Type 0} → Result A ℕ → (A → Result B ℕ) → Result B ℕ
(Ok x) >>= f = f x
(Err left) >>= f = Err left

-- what a function answers, seen by view, is what reading gives, unless memory ran out
abbrev pub Stops : {Y : Type 0} → Stop → Result Y ℕ → Type 0
Stops (stops.At left) read = read ≡ Err left
Stops stops.NoMemory read = ⊤

abbrev pub Gives : {X Y : Type 0} → (X → Y) → Result X Stop → Result Y ℕ → Type 0
Gives view (Ok x) read = read ≡ Ok (view x)
Gives view (Err stop) read = Stops stop read

-- all of a token
abbrev pub whole : {A : Type 0} → Option (A × List ℕ) → Option A
whole None = None
whole (Some p) = if length p.1 == 0 then Some p.0 else None

unfoldable pub count_of : List ℕ → Option ℕ
count_of word = whole (count_at word)

unfoldable pub integer_of : List ℕ → Option ℤ
integer_of word = whole (integer_at word)

abbrev pub moment_behind : Option (List ℕ) → Option ℕ
moment_behind None = None
moment_behind (Some digits) = whole (moment_at digits)

unfoldable pub moment_of : List ℕ → Option ℕ
moment_of word = moment_behind (after (codes "@") word)

abbrev pub name_by : ℕ → List ℕ → Option (List ℕ)
name_by n word = if nat_le 1 n && nat_le n 32 && pointwise nat_eq (drop n word) (codes ":") then Some (take n word) else None

-- the client's name, without the colon
unfoldable pub client_of : List ℕ → Option (List ℕ)
client_of word = name_by (prefix_len is_name_byte word) word

abbrev pub same : List ℕ → List ℕ → Bool
same = pointwise nat_eq

abbrev pub beside : {A : Type 0} → List ℕ → Option A → Option (A × List ℕ)
beside rest None = None
beside rest (Some x) = Some (x, rest)

-- two hexadecimal digits
unfoldable pub hex_byte_at : List ℕ → Option (ℕ × List ℕ)
hex_byte_at (high ∷ low ∷ rest) = beside rest (hex_pair high low)
hex_byte_at _ = None

abbrev pub low_only : Option (ℕ × List ℕ) → Option (ℕ × List ℕ)
low_only None = None
low_only (Some p) = if nat_lt p.0 128 then Some p else None

-- behind \x
unfoldable pub hexed_at : List ℕ → Option (ℕ × List ℕ)
hexed_at bytes = low_only (hex_byte_at bytes)

-- behind a \
unfoldable pub escape_at : List ℕ → Option (ℕ × List ℕ)
escape_at [] = None
escape_at (c ∷ cs) = if c == 120 then hexed_at cs else (if is_bare c then None else Some (c, cs))

-- the next byte of a text; there is none at its closing quote
unfoldable pub piece_at : List ℕ → Option (ℕ × List ℕ)
piece_at [] = None
piece_at (b ∷ bs) = if b == 34 then None else (if b == 92 then escape_at bs else Some (b, bs))

abbrev pub closed_at : List ℕ → Option (List ℕ × List ℕ)
closed_at [] = None
closed_at (b ∷ bs) = if b == 34 then Some ([], bs) else None

abbrev pub onto : ℕ → Option (List ℕ × List ℕ) → Option (List ℕ × List ℕ)
onto b None = None
onto b (Some p) = Some (b ∷ p.0, p.1)

abbrev pub quoted_by : (List ℕ → Option (List ℕ × List ℕ)) → Option (ℕ × List ℕ) → List ℕ → Option (List ℕ × List ℕ)
quoted_by more None bytes = closed_at bytes
quoted_by more (Some p) bytes = onto p.0 (more p.1)

-- at most so many bytes of a text, and its closing quote
unfoldable pub quoted_within : ℕ → List ℕ → Option (List ℕ × List ℕ)
quoted_within zero bytes = closed_at bytes
quoted_within (suc n) bytes = quoted_by (quoted_within n) (piece_at bytes) bytes

-- a text up to its closing quote, and the bytes behind that
unfoldable pub quoted_at : List ℕ → Option (List ℕ × List ℕ)
quoted_at bytes = quoted_within (length bytes) bytes

unfoldable pub utf8_of : List ℕ → Option (List ℕ)
utf8_of bytes = if is_utf8 bytes then Some bytes else None

abbrev pub text_beside : List ℕ → Option (List ℕ) → Option (Value × List ℕ)
text_beside rest None = None
text_beside rest (Some text) = Some (Text text, rest)

abbrev pub text_by : Option (List ℕ × List ℕ) → Option (Value × List ℕ)
text_by None = None
text_by (Some p) = if is_ended p.1 then text_beside p.1 (utf8_of p.0) else None

-- a text behind its opening quote
unfoldable pub text_behind : List ℕ → Option (Value × List ℕ)
text_behind bytes = text_by (quoted_at bytes)

abbrev pub word_value_by : Option (List ℕ) → List ℕ → Option Value
word_value_by None word = option_map Int (integer_of word)
word_value_by (Some digits) word = option_map Blob (hex_of digits)

-- a literal that is no text
unfoldable pub word_value : List ℕ → Option Value
word_value word = word_value_by (after (codes "0x") word) word

-- the literal that is the next token
unfoldable pub literal_here : List ℕ → Option (Value × List ℕ)
literal_here bytes = if is_quoted bytes then text_behind (drop 1 bytes) else beside (behind bytes) (word_value (word_of bytes))

unfoldable pub literal_at : List ℕ → Option (Value × List ℕ)
literal_at bytes = literal_here (skipped bytes)

abbrev pub value_onto : Value → List Value × List ℕ → List Value × List ℕ
value_onto value p = (value ∷ p.0, p.1)

abbrev pub literals_by : (List ℕ → List Value × List ℕ) → Option (Value × List ℕ) → List ℕ → List Value × List ℕ
literals_by more None bytes = ([], bytes)
literals_by more (Some p) bytes = value_onto p.0 (more p.1)

-- at most so many literals
unfoldable pub literals_within : ℕ → List ℕ → List Value × List ℕ
literals_within zero bytes = ([], bytes)
literals_within (suc n) bytes = literals_by (literals_within n) (literal_at bytes) bytes

-- as many literals as there are
unfoldable pub literals_at : List ℕ → List Value × List ℕ
literals_at bytes = literals_within (length bytes) bytes

-- the reading stops at the next token
abbrev pub stopped : {A : Type 0} → List ℕ → Result A ℕ
stopped bytes = Err (length (skipped bytes))

abbrev pub needed : {A : Type 0} → Option A → List ℕ → List ℕ → Result (A × List ℕ) ℕ
needed None bytes rest = stopped bytes
needed (Some x) bytes rest = Ok (x, rest)

abbrev pub maybe : {A : Type 0} → Option A → List ℕ → List ℕ → Option A × List ℕ
maybe None bytes rest = (None, bytes)
maybe (Some x) bytes rest = (Some x, rest)

abbrev pub next_word : List ℕ → List ℕ
next_word bytes = word_of (skipped bytes)

abbrev pub behind_next : List ℕ → List ℕ
behind_next bytes = behind (skipped bytes)

-- what is behind the next token, where it is this word
unfoldable pub after_word : List ℕ → List ℕ → Option (List ℕ)
after_word word bytes = if same (next_word bytes) word then Some (behind_next bytes) else None

unfoldable pub needed_count : List ℕ → Result (ℕ × List ℕ) ℕ
needed_count bytes = needed (count_of (next_word bytes)) bytes (behind_next bytes)

unfoldable pub maybe_count : List ℕ → Option ℕ × List ℕ
maybe_count bytes = maybe (count_of (next_word bytes)) bytes (behind_next bytes)

unfoldable pub maybe_moment : List ℕ → Option ℕ × List ℕ
maybe_moment bytes = maybe (moment_of (next_word bytes)) bytes (behind_next bytes)

abbrev pub column_name : List ℕ → Option (List ℕ)
column_name word = if is_name word then Some word else None

unfoldable pub needed_name : List ℕ → Result (List ℕ × List ℕ) ℕ
needed_name bytes = needed (column_name (next_word bytes)) bytes (behind_next bytes)

unfoldable pub needed_kind : List ℕ → Result (Kind × List ℕ) ℕ
needed_kind bytes = needed (kind_named (next_word bytes)) bytes (behind_next bytes)

abbrev pub edge_by : Bool → List Value × List ℕ → Result (Option Edge × List ℕ) ℕ
edge_by strict ([], rest) = stopped rest
edge_by strict (value ∷ values, rest) = Ok (Some (record { values = value ∷ values; strict = strict }), rest)

abbrev pub edge_after : Option (List ℕ) → Option (List ℕ) → List ℕ → Result (Option Edge × List ℕ) ℕ
edge_after (Some rest) _ bytes = edge_by false (literals_at rest)
edge_after None (Some rest) bytes = edge_by true (literals_at rest)
edge_after None None bytes = Ok (None, bytes)

-- an end of a range of keys
unfoldable pub edge_at : List ℕ → List ℕ → List ℕ → Result (Option Edge × List ℕ) ℕ
edge_at weak strict bytes = edge_after (after_word weak bytes) (after_word strict bytes) bytes

abbrev pub times_after : Option (List ℕ) → List ℕ → Result ((ℕ × ℕ) × List ℕ) ℕ
times_after None bytes = Ok ((0, 2 ^ 62 - 1), bytes)
times_after (Some rest) bytes = do
  from ← needed_count rest
  to ← needed_count from.1
  Ok ((from.0, to.0), to.1)

unfoldable pub times_at : List ℕ → Result ((ℕ × ℕ) × List ℕ) ℕ
times_at bytes = times_after (after_word (codes "time") bytes) bytes

abbrev pub direction_after : Option (List ℕ) → Option (List ℕ) → List ℕ → Bool × List ℕ
direction_after (Some rest) _ bytes = (false, rest)
direction_after None (Some rest) bytes = (true, rest)
direction_after None None bytes = (false, bytes)

unfoldable pub direction_at : List ℕ → Bool × List ℕ
direction_at bytes = direction_after (after_word (codes "asc") bytes) (after_word (codes "desc") bytes) bytes

abbrev pub limit_after : Option (List ℕ) → List ℕ → Result (ℕ × List ℕ) ℕ
limit_after None bytes = Ok (1000, bytes)
limit_after (Some rest) bytes = needed_count rest

unfoldable pub limit_at : List ℕ → Result (ℕ × List ℕ) ℕ
limit_at bytes = limit_after (after_word (codes "limit") bytes) bytes

abbrev pub query_of : Option Edge → Option Edge → ℕ × ℕ → Bool → ℕ → Query
query_of lo hi times down limit = record { lo = lo; hi = hi; from = times.0; to = times.1; down = down; limit = limit }

unfoldable pub scan_at : List ℕ → Result (Query × List ℕ) ℕ
scan_at bytes = do
  lo ← edge_at (codes "ge") (codes "gt") bytes
  hi ← edge_at (codes "le") (codes "lt") lo.1
  times ← times_at hi.1
  limit ← limit_at (direction_at times.1).1
  Ok (query_of lo.0 hi.0 times.0 (direction_at times.1).0 limit.0, limit.1)

abbrev pub default_by : Kind → Option (Value × List ℕ) → List ℕ → Value × List ℕ
default_by kind None bytes = (blank_of kind, bytes)
default_by kind (Some p) bytes = p

unfoldable pub default_at : Kind → List ℕ → Value × List ℕ
default_at kind bytes = default_by kind (literal_at bytes) bytes

abbrev pub column_of : List ℕ → Kind → Value → ColumnShape
column_of name kind default = record { name = name; kind = kind; default = default }

unfoldable pub append_at : List ℕ → Result (Change × List ℕ) ℕ
append_at bytes = do
  name ← needed_name bytes
  kind ← needed_kind name.1
  Ok (Append (column_of name.0 kind.0 (default_at kind.0 kind.1).0), (default_at kind.0 kind.1).1)

unfoldable pub widen_at : List ℕ → Result (Change × List ℕ) ℕ
widen_at bytes = do
  name ← needed_name bytes
  Ok (Widen name.0, name.1)

abbrev pub change_after : Option (List ℕ) → Option (List ℕ) → List ℕ → Result (Change × List ℕ) ℕ
change_after (Some rest) _ bytes = append_at rest
change_after None (Some rest) bytes = widen_at rest
change_after None None bytes = stopped bytes

unfoldable pub change_at : List ℕ → Result (Change × List ℕ) ℕ
change_at bytes = change_after (after_word (codes "append") bytes) (after_word (codes "widen") bytes) bytes

abbrev pub said : {A : Type 0} → (A → Command) → Result (A × List ℕ) ℕ → Result (Command × List ℕ) ℕ
said say (Ok p) = Ok (say p.0, p.1)
said say (Err left) = Err left

abbrev pub says : {A : Type 0} → (A → Command) → A × List ℕ → Result (Command × List ℕ) ℕ
says say p = Ok (say p.0, p.1)

-- by a command's word, and the bytes behind it
unfoldable pub command_by : List ℕ → List ℕ → ℕ → Result (Command × List ℕ) ℕ
command_by word rest left =
    if same word (codes "insert") then says Insert (literals_at rest) else
    (if same word (codes "scan") then said Scan (scan_at rest) else
    (if same word (codes "latest") then says Latest (literals_at rest) else
    (if same word (codes "flush") then says Flush (maybe_count rest) else
    (if same word (codes "upkeep") then Ok (Upkeep, rest) else
    (if same word (codes "alter") then said Alter (change_at rest) else
    (if same word (codes "tablets") then Ok (Tablets, rest) else Err left))))))

unfoldable pub command_at : List ℕ → Result (Command × List ℕ) ℕ
command_at bytes = command_by (next_word bytes) (behind_next bytes) (length (skipped bytes))

-- nothing may stand behind a command
unfoldable pub last_command : List ℕ → Result Command ℕ
last_command bytes = do
  command ← command_at bytes
  if length (skipped command.1) == 0 then Ok command.0 else stopped command.1

-- a moment, which may be left out, and a command
unfoldable pub request_at : List ℕ → Result (Option ℕ × Command) ℕ
request_at bytes = do
  command ← last_command (maybe_moment bytes).1
  Ok ((maybe_moment bytes).0, command)

abbrev pub client_line : ℕ → List ℕ → Result (Option ℕ × Command) ℕ → Line
client_line len client (Ok request) = lines.Command client request.0 request.1
client_line len client (Err left) = lines.Bad client (len - left)

abbrev pub line_by : Option (List ℕ) → List ℕ → List ℕ → Line
line_by None bytes rest = lines.Bad (codes "?") (length bytes - length (skipped bytes))
line_by (Some client) bytes rest = client_line (length bytes) client (request_at rest)

-- what the line says
unfoldable pub line_at : List ℕ → Line
line_at bytes =
    if is_remark (skipped bytes) then lines.Skip else
    line_by (client_of (next_word bytes)) bytes (behind_next bytes)
