-- The texts of replies, of a client's block and of the last line. Each line ends with LF.
use Rattle.std.specs.Prelude.{ℕ, ◌+◌, ◌/◌, ◌%◌, Bool, true, false, not, ◌&&◌, ◌||◌, ◌==◌, nat_le, nat_lt, List, [], ◌∷◌, ◌++◌, length, Option, Some, None, if◌then◌else◌, codes, decimal}
use Rattle.std.specs.Fmt.{signed_decimal}
use Rattle.std.specs.List.{flat_map}
use Rattle.lt_rec.specs.declared.listed.Listed.{Listed}
use Rattle.lt_schema.specs.declared.value.Value.{Value}
use Rattle.lt_schema.specs.declared.value.Value.TheVariants.{Int, Text, Blob}
use Rattle.lt_schema.specs.declared.row.RowFault.{RowFault}
use Rattle.lt_schema.specs.declared.row.RowFault.TheVariants as row_faults
use Rattle.lt_schema.specs.declared.change.AlterError.{AlterError}
use Rattle.lt_schema.specs.declared.change.AlterError.TheVariants.{Exists, TooMany, BadDefault, NoColumn, NotInt32}
use Rattle.lt_command.specs.declared.bound_fault.BoundFault.{BoundFault}
use Rattle.lt_command.specs.declared.bound_fault.BoundFault.TheVariants as bound_faults
use Rattle.lt_command.specs.declared.upkeep.MergeEnd.{MergeEnd}
use Rattle.lt_command.specs.declared.upkeep.MergeEnd.TheVariants.{Merged, Emptied, Gone}
use Rattle.lt_command.specs.declared.reply.Reply.{Reply}
use Rattle.lt_command.specs.declared.reply.Reply.TheVariants.{BadLine, Inserted, BadRow, TooOld, Present, Spent, Rows, Latest, BadLimit, BadBound, Flushed, NoTablet, Upkept, Version, Refused, Tablets, Damaged, Fault, NoMemory}

-- a line and its LF
abbrev pub line_of : List ℕ → List ℕ
line_of text = text ++ 10 ∷ []

-- 0 to 9 and a to f
abbrev pub hex_digit : ℕ → ℕ
hex_digit n = if nat_lt n 10 then 48 + n else 87 + n

-- two lower-case digits
abbrev pub hex_byte : ℕ → List ℕ
hex_byte b = hex_digit (b / 16) ∷ hex_digit (b % 16) ∷ []

-- what may stand as it is: from 20 to 7e in hexadecimal, but neither " nor \
abbrev pub is_plain : ℕ → Bool
is_plain b = nat_le 32 b && nat_le b 126 && not (b == 34) && not (b == 92)

-- " and \ stand behind a \, and bytes below 20 in hexadecimal and 7f stand by their digits
abbrev pub quoted_byte : ℕ → List ℕ
quoted_byte b =
    if b == 34 || b == 92 then 92 ∷ b ∷ [] else
    (if nat_lt b 32 || b == 127 then codes "\\x" ++ hex_byte b else b ∷ [])

abbrev pub value_text : Value → List ℕ
value_text (Int x) = signed_decimal x
value_text (Text bytes) = codes "\"" ++ flat_map quoted_byte bytes ++ codes "\""
value_text (Blob bytes) = codes "0x" ++ flat_map hex_byte bytes

-- a value after one space
abbrev pub spaced_value : Value → List ℕ
spaced_value value = 32 ∷ value_text value

abbrev pub row_line : List Value → List ℕ
row_line row = line_of (codes "row" ++ flat_map spaced_value row)

-- where in the history an answer was read, and from which time on rows were unexpired there
abbrev pub place_text : ℕ → ℕ → List ℕ
place_text place since = codes " place " ++ decimal place ++ codes " since " ++ decimal since

abbrev pub more_text : Bool → List ℕ
more_text true = codes " more"
more_text false = codes " all"

abbrev pub rows_text : List (List Value) → Bool → ℕ → ℕ → List ℕ
rows_text rows more place since =
    line_of (codes "rows " ++ decimal (length rows) ++ more_text more ++ place_text place since) ++ flat_map row_line rows

abbrev pub latest_text : Option (List Value) → ℕ → ℕ → List ℕ
latest_text None place since = line_of (codes "latest none" ++ place_text place since)
latest_text (Some row) place since = line_of (codes "latest one" ++ place_text place since) ++ row_line row

abbrev pub row_fault_text : RowFault → List ℕ
row_fault_text (row_faults.Arity want got) = codes "bad row arity " ++ decimal want ++ codes " " ++ decimal got
row_fault_text (row_faults.WrongKind column) = codes "bad row kind " ++ decimal column
row_fault_text (row_faults.KeyLong len) = codes "bad row key " ++ decimal len
row_fault_text (row_faults.BodyLong len) = codes "bad row body " ++ decimal len

abbrev pub bound_fault_text : BoundFault → List ℕ
bound_fault_text bound_faults.Count = codes "bad bound count"
bound_fault_text (bound_faults.WrongKind column) = codes "bad bound kind " ++ decimal column

abbrev pub refusal_text : AlterError → List ℕ
refusal_text Exists = codes "exists"
refusal_text TooMany = codes "too many columns"
refusal_text BadDefault = codes "bad default"
refusal_text NoColumn = codes "no column"
refusal_text NotInt32 = codes "not int32"

-- a number after one space
abbrev pub spaced_number : ℕ → List ℕ
spaced_number n = 32 ∷ decimal n

abbrev pub flushed_text : ℕ → List ℕ → List ℕ
flushed_text kept tablets = codes "flushed " ++ decimal kept ++ codes " tablets" ++ flat_map spaced_number tablets

-- what became of the inputs of a merge
abbrev pub end_text : MergeEnd → List ℕ
end_text (Merged file) = codes " into " ++ decimal file
end_text Emptied = codes " into none"
end_text (Gone file) = codes " gone " ++ decimal file

-- the inputs in the run's order, and the merge's end
abbrev pub run_text : List ℕ → Option MergeEnd → List ℕ
run_text inputs None = codes " none"
run_text inputs (Some end) = flat_map spaced_number inputs ++ end_text end

abbrev pub upkept_text : ℕ → List ℕ → Option MergeEnd → ℕ → List ℕ
upkept_text low inputs end swept = codes "upkeep low " ++ decimal low ++ codes " run" ++ run_text inputs end ++ codes " swept " ++ decimal swept

-- a tablet's file, and how many rows and bytes it has
abbrev pub sizes_text : Listed → List ℕ
sizes_text t = codes "tablet " ++ decimal t.file ++ codes " rows " ++ decimal t.rows ++ codes " bytes " ++ decimal t.bytes

-- its least and greatest timestamps, and its period's start and length
abbrev pub times_text : Listed → List ℕ
times_text t = codes " span " ++ decimal t.low ++ codes " " ++ decimal t.high ++ codes " period " ++ decimal t.period.start ++ codes " " ++ decimal t.period.len

-- a tablet on disk; at the line's end its rows' least and greatest numbers
abbrev pub tablet_line : Listed → List ℕ
tablet_line t = line_of (sizes_text t ++ times_text t ++ codes " numbers " ++ decimal t.first ++ codes " " ++ decimal t.last)

abbrev pub tablets_text : List Listed → List ℕ
tablets_text listing = line_of (codes "tablets " ++ decimal (length listing)) ++ flat_map tablet_line listing

-- the lines of a reply
abbrev pub reply_text_of : Reply → List ℕ
reply_text_of (BadLine at) = line_of (codes "bad line at " ++ decimal at)
reply_text_of (Inserted seq) = line_of (codes "ok " ++ decimal seq)
reply_text_of (BadRow fault) = line_of (row_fault_text fault)
reply_text_of (TooOld since) = line_of (codes "too old " ++ decimal since)
reply_text_of (Present seq) = line_of (codes "present " ++ decimal seq)
reply_text_of Spent = line_of (codes "spent")
reply_text_of (Rows rows more place since) = rows_text rows more place since
reply_text_of (Latest row place since) = latest_text row place since
reply_text_of (BadLimit given) = line_of (codes "bad limit " ++ decimal given)
reply_text_of (BadBound fault) = line_of (bound_fault_text fault)
reply_text_of (Flushed kept tablets) = line_of (flushed_text kept tablets)
reply_text_of (NoTablet id) = line_of (codes "no tablet " ++ decimal id)
reply_text_of (Upkept low run end swept) = line_of (upkept_text low run end swept)
reply_text_of (Version version) = line_of (codes "version " ++ decimal version)
reply_text_of (Refused why) = line_of (refusal_text why)
reply_text_of (Tablets listing) = tablets_text listing
reply_text_of (Damaged file at) = line_of (codes "damaged " ++ decimal file ++ codes " " ++ decimal at)
reply_text_of Fault = line_of (codes "fault")
reply_text_of NoMemory = line_of (codes "no memory")

-- the line that begins a client's block
abbrev pub client_line : List ℕ → List ℕ
client_line name = line_of (codes "client " ++ name)

-- a client's block: its name, and its replies in order
abbrev pub block_text : List ℕ → List Reply → List ℕ
block_text name replies = client_line name ++ flat_map reply_text_of replies

-- the last line of a session: its next and its kept number
abbrev pub end_line : ℕ → ℕ → List ℕ
end_line next kept = line_of (codes "end next " ++ decimal next ++ codes " kept " ++ decimal kept)
