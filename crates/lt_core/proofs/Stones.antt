-- The table's stone stays lawful under other schemas and by later file numbers.
use Rattle.std.proofs.Common.{◌≡◌, ℕ, ◌+◌, ◌^◌, ◌≤◌, ◌<◌, List, sym, ap, subst, arith}
use Rattle.std.specs.Prelude.{IsTrue}
use Rattle.lt_rec.specs.declared.listed.Listed.{Listed}
use Rattle.lt_schema.specs.Versions.{SchemaVersions, is_versions}
use Rattle.lt_desc.specs.Lawful.{IsStone}
use Rattle.lt_desc.proofs.Growth.{IsStone-later}
use Rattle.lt_commit.specs.Anchored.{Anchored}
use Rattle.lt_state.specs.State.{Core, listing}
use Rattle.lt_events.specs.Cores.{with_lent}
use Rattle.lt_core.specs.Parts.{own_stone, IsTable}

pub lawful_under : (c : Core) (schemas : SchemaVersions) (file : ℕ) → IsTable c → IsTrue (is_versions schemas) → c.next_file ≤ file → file ≤ 2 ^ 62
    → IsStone (record { kept = c.kept; low = c.low; ttl = c.ttl; next_file = file; schemas = schemas; tablets = listing c })
lawful_under c schemas file is versions later most =
    IsStone-later (own_stone c) c.kept c.low file schemas is.lawful (omega arith) is.lawful.kept is.lawful.low later most versions

pub table_lent : (c : Core) (after : Anchored) → IsTable c → c.next_file < 2 ^ 62 → after.directory.now.ceiling ≡ c.next_file + 1 → IsTable (with_lent c after)
table_lent c after is room ceiling = record {
  lawful = lawful_under c c.schemas (c.next_file + 1) is is.lawful.schemas (omega arith) (omega arith);
  free = omega (arith, ceiling);
}

pub table_lent_from : (c old : Core) (after : Anchored) → c ≡ old → IsTable c → old.next_file < 2 ^ 62 → after.directory.now.ceiling ≡ c.next_file + 1 → IsTable (with_lent c after)
table_lent_from c old after same is room ceiling = let file : c.next_file ≡ old.next_file = ap (λ (x : Core). x.next_file) same in table_lent c after is (omega (arith, room, file)) ceiling

pub stone_from : (c old : Core) (schemas : SchemaVersions) (tablets : List Listed) → c ≡ old → tablets ≡ listing c → IsTable c → IsTrue (is_versions schemas) → old.next_file < 2 ^ 62
    → IsStone (record { kept = c.kept; low = c.low; ttl = c.ttl; next_file = c.next_file + 1; schemas = schemas; tablets = tablets })
stone_from c old schemas tablets same tablets_are is versions room =
    let file : c.next_file ≡ old.next_file = ap (λ (x : Core). x.next_file) same in
    subst (λ (ls : List Listed). IsStone (record { kept = c.kept; low = c.low; ttl = c.ttl; next_file = c.next_file + 1; schemas = schemas; tablets = ls })) (sym tablets_are)
    (lawful_under c schemas (c.next_file + 1) is versions (omega arith) (omega (arith, room, file)))

-- a core under other schemas
pub table_under : (c : Core) (schemas : SchemaVersions) (count : ℕ) → IsTable c → IsTrue (is_versions schemas) → IsTable (record c { schemas = schemas; count = count })
table_under c schemas count is versions = record { lawful = lawful_under c schemas c.next_file is versions (omega arith) is.lawful.next_file; free = is.free }
