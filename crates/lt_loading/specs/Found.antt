-- What is found in the listed files of a directory: their records, or the first rule that is broken.
use Rattle.std.specs.Prelude.{◌≡◌, ℕ, List, [], ◌∷◌, Contains, Option, Some, None, Result, Ok, Err}
use Rattle.lt_rec.specs.Record.{Record}
use Rattle.lt_rec.specs.Records.{joined}
use Rattle.lt_rec.specs.Reading.{◌>>=◌}
use Rattle.lt_rec.specs.declared.listed.Listed.{Listed}
use Rattle.lt_schema.specs.Versions.{SchemaVersions}
use Rattle.lt_layout.specs.Spelling.{listed_totals}
use Rattle.lt_layout.specs.Reading as layout
use Rattle.lt_io.specs.Directory.{Contents, file_at}
use Rattle.lt_trace.specs.Elements.{Noted}
use Rattle.lt_trace.specs.Records.{HasFile}
use Rattle.lt_tablet.specs.Loaded.{Loaded, records_in}
use Rattle.lt_loading.specs.Rows.{IsOfRow, blocks_at}
use Rattle.lt_loading.specs.declared.refusal.LoadRefusal.{LoadRefusal}
use Rattle.lt_loading.specs.declared.refusal.LoadRefusal.TheVariants.{Missing, BadTablet, Clash, Fault, NoMemory}

-- ---- what one file has

-- the blocks of a listed file of rows, or the offset of the first fault
abbrev pub tablet_at : SchemaVersions → Listed → List ℕ → Result (List (List Record)) ℕ
tablet_at versions listed bytes = layout.file_at (listed_totals listed) listed.bytes bytes >>= λ blocks. blocks_at versions 8 blocks >>= λ _. Ok blocks

-- the fault of a listed file is named
abbrev pub named : Listed → Result (List (List Record)) ℕ → Result Noted LoadRefusal
named listed (Ok blocks) = Ok (record { file = listed.file; recs = joined blocks })
named listed (Err at) = Err (BadTablet listed.file at)

-- the records of a listed file that has these bytes, if it is there, or its first fault
abbrev pub found_in : SchemaVersions → Listed → Option (List ℕ) → Result Noted LoadRefusal
found_in versions listed None = Err (Missing listed.file)
found_in versions listed (Some bytes) = named listed (tablet_at versions listed bytes)

-- ---- what all listed files have

abbrev pub behind : Result Noted LoadRefusal → Result (List Noted) LoadRefusal → Result (List Noted) LoadRefusal
behind (Ok note) (Ok notes) = Ok (note ∷ notes)
behind (Ok note) (Err why) = Err why
behind (Err why) others = Err why

-- the files one after the other, each with its records; or the first fault of the first that has one
abbrev pub all_found : SchemaVersions → Contents → List Listed → Result (List Noted) LoadRefusal
all_found versions files [] = Ok []
all_found versions files (listed ∷ others) = behind (found_in versions listed (file_at files listed.file)) (all_found versions files others)

-- ---- what a call tells of it

-- the file of a tablet, with its records
abbrev pub noted_of : Loaded → Noted
noted_of t = record { file = t.listed.file; recs = records_in t }

-- a refusal for a file's fault is that of the first; none is for keys
abbrev pub Refuses : {Y : Type 0} → LoadRefusal → Result Y LoadRefusal → Type 0
Refuses (Missing file) found = found ≡ Err (Missing file)
Refuses (BadTablet file at) found = found ≡ Err (BadTablet file at)
Refuses (Clash first second) found = ⊥
Refuses Fault found = Unit {0}
Refuses NoMemory found = Unit {0}

-- what a call returned, seen by `view`, is what is found, unless the device failed or memory ran out
abbrev pub Finds : {X Y : Type 0} → (X → Y) → Result X LoadRefusal → Result Y LoadRefusal → Type 0
Finds view (Ok x) found = found ≡ Ok (view x)
Finds view (Err why) found = Refuses why found

-- the tablet's file is there, it is that of the tablet's records, and each of them is of a row
pub record IsSound (versions : SchemaVersions) (files : Contents) (t : Loaded) : Type 0 where
  pub file : HasFile files t.listed (records_in t)
  pub rows : (rec : Record) → Contains (records_in t) rec → IsOfRow versions rec

-- a refusal of a file's records is that of the first that is none of a row
abbrev pub RefusesBlocks : ℕ → Result (Unit {0}) ℕ → LoadRefusal → Type 0
RefusesBlocks own read (Missing file) = ⊥
RefusesBlocks own read (BadTablet file at) = (file ≡ own) × (read ≡ Err at)
RefusesBlocks own read (Clash first second) = ⊥
RefusesBlocks own read Fault = Unit {0}
RefusesBlocks own read NoMemory = Unit {0}
