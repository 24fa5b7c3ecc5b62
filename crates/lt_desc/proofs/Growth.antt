-- Stones that stay lawful: later ones, and ones of fewer tablets.
use Rattle.std.proofs.Common.{◌≡◌, ℕ, suc, ◌+◌, ◌^◌, ◌<◌, ◌≤◌, Bool, true, false, cond, eqb, ltb, List, [], ◌∷◌, ◌++◌, length, refl, sym, ap, ◌∙◌, arith}
use Rattle.std.specs.Prelude.{IsTrue, not, ◌&&◌, ◌||◌, filter}
use Rattle.std.specs.List.{list_any, AllByRecursion}
use Rattle.std.proofs.lemmas.Bool.{and_parts, and_from}
use Rattle.std.proofs.lemmas.Bool.Decides.{nat_tests}
use Rattle.lt_rec.specs.declared.listed.Listed.{Listed}
use Rattle.lt_schema.specs.Versions.{SchemaVersions, is_versions}
use Rattle.lt_desc.specs.Shape.{StoneShape}
use Rattle.lt_desc.specs.Lawful.{lists_file, files_differ, comes_before, leads, rises, IsListed, IsStone}
use Rattle.lt_desc.proofs.ColumnText.{not_true, not_false, not_or, or_not}

later : (kept next_file more next : ℕ) → kept ≤ more → next_file ≤ next → (t : Listed) → IsListed kept next_file t → IsListed more next t
later kept next_file more next u f t is = record {
  file = omega (arith, is.file, f);
  rows = is.rows;
  times = is.times;
  moments = is.moments;
  period = is.period;
  begins_in = is.begins_in;
  ends_in = is.ends_in;
  numbers = is.numbers;
  settled = omega (arith, is.settled, u);
}

all_later : (kept next_file more next : ℕ) → kept ≤ more → next_file ≤ next → (tablets : List Listed) → AllByRecursion (IsListed kept next_file) tablets → AllByRecursion (IsListed more next) tablets
all_later kept next_file more next u f [] all = tt
all_later kept next_file more next u f (t ∷ tablets) all = (later kept next_file more next u f t all.0, all_later kept next_file more next u f tablets all.1)

-- a stone with other schemas and later numbers
pub IsStone-later : (s : StoneShape) (kept low next_file : ℕ) (schemas : SchemaVersions) → IsStone s → s.kept ≤ kept → kept ≤ 2 ^ 62 → low < 2 ^ 62 → s.next_file ≤ next_file → next_file ≤ 2 ^ 62 → IsTrue (is_versions schemas)
    → IsStone (record { kept = kept; low = low; ttl = s.ttl; next_file = next_file; schemas = schemas; tablets = s.tablets })
IsStone-later s kept low next_file schemas is u bound_upto bound_low f bound_file lawful = record {
  kept = bound_upto;
  low = bound_low;
  ttl = is.ttl;
  next_file = bound_file;
  schemas = lawful;
  few = is.few;
  tablets = all_later s.kept s.next_file kept next_file u f s.tablets is.tablets;
  rising = is.rising;
  once = is.once;
}

-- ---- fewer tablets

comes_over : (a b c : Listed) → comes_before a b.low b.file ≡ true → comes_before b c.low c.file ≡ true → comes_before a c.low c.file ≡ true
comes_over a b c p q = grind (arith, nat_tests)

without_next : (t u : Listed) (tablets : List Listed) → rises (t ∷ u ∷ tablets) ≡ true → rises (t ∷ tablets) ≡ true
without_next t u [] up = refl
without_next t u (v ∷ tablets) up =
    let a = and_parts (comes_before t u.low u.file) (rises (u ∷ v ∷ tablets)) up in
    let b = and_parts (comes_before u v.low v.file) (rises (v ∷ tablets)) a.1 in
    and_from (comes_before t v.low v.file) (rises (v ∷ tablets)) (comes_over t u v a.0 b.0) b.1

leads_kept : (keep : Listed → Bool) (t : Listed) (tablets : List Listed) → rises (t ∷ tablets) ≡ true → leads t (filter keep tablets) ≡ true
leads_kept keep t [] up = refl
leads_kept keep t (u ∷ tablets) up = go (keep u) (leads_kept keep t tablets (without_next t u tablets up))
  where
    go : (b : Bool) → leads t (filter keep tablets) ≡ true → leads t (cond b (u ∷ filter keep tablets) (filter keep tablets)) ≡ true
    go true rest = (and_parts (comes_before t u.low u.file) (rises (u ∷ tablets)) up).0
    go false rest = rest

rises_kept : (keep : Listed → Bool) (tablets : List Listed) → rises tablets ≡ true → rises (filter keep tablets) ≡ true
rises_kept keep [] up = refl
rises_kept keep (t ∷ tablets) up = go (keep t) (rises_kept keep tablets (and_parts (leads t tablets) (rises tablets) up).1)
  where
    go : (b : Bool) → rises (filter keep tablets) ≡ true → rises (cond b (t ∷ filter keep tablets) (filter keep tablets)) ≡ true
    go true rest = and_from (leads t (filter keep tablets)) (rises (filter keep tablets)) (leads_kept keep t tablets up) rest
    go false rest = rest

none_kept : (keep : Listed → Bool) (file : ℕ) (tablets : List Listed) → lists_file tablets file ≡ false → lists_file (filter keep tablets) file ≡ false
none_kept keep file [] none = refl
none_kept keep file (t ∷ tablets) none =
    let p = not_or (eqb t.file file) (lists_file tablets file) none in
    go (keep t) p.0 (none_kept keep file tablets p.1)
  where
    go : (b : Bool) → eqb t.file file ≡ false → lists_file (filter keep tablets) file ≡ false → lists_file (cond b (t ∷ filter keep tablets) (filter keep tablets)) file ≡ false
    go true here rest = or_not (eqb t.file file) (lists_file (filter keep tablets) file) here rest
    go false here rest = rest

differ_kept : (keep : Listed → Bool) (tablets : List Listed) → files_differ tablets ≡ true → files_differ (filter keep tablets) ≡ true
differ_kept keep [] differ = refl
differ_kept keep (t ∷ tablets) differ =
    let p = and_parts (not (lists_file tablets t.file)) (files_differ tablets) differ in
    go (keep t) (none_kept keep t.file tablets (not_true (lists_file tablets t.file) p.0)) (differ_kept keep tablets p.1)
  where
    go : (b : Bool) → lists_file (filter keep tablets) t.file ≡ false → files_differ (filter keep tablets) ≡ true → files_differ (cond b (t ∷ filter keep tablets) (filter keep tablets)) ≡ true
    go true none rest = and_from (not (lists_file (filter keep tablets) t.file)) (files_differ (filter keep tablets)) (not_false (lists_file (filter keep tablets) t.file) none) rest
    go false none rest = rest

each_kept : (kept next_file : ℕ) (keep : Listed → Bool) (tablets : List Listed) → AllByRecursion (IsListed kept next_file) tablets → AllByRecursion (IsListed kept next_file) (filter keep tablets)
each_kept kept next_file keep [] all = tt
each_kept kept next_file keep (t ∷ tablets) all = go (keep t) (each_kept kept next_file keep tablets all.1)
  where
    go : (b : Bool) → AllByRecursion (IsListed kept next_file) (filter keep tablets) → AllByRecursion (IsListed kept next_file) (cond b (t ∷ filter keep tablets) (filter keep tablets))
    go true rest = (all.0, rest)
    go false rest = rest

fewer_kept : (keep : Listed → Bool) (tablets : List Listed) → length (filter keep tablets) ≤ length tablets
fewer_kept keep [] = omega arith
fewer_kept keep (t ∷ tablets) = go (keep t) (fewer_kept keep tablets)
  where
    go : (b : Bool) → length (filter keep tablets) ≤ length tablets → length (cond b (t ∷ filter keep tablets) (filter keep tablets)) ≤ suc (length tablets)
    go true le = omega (arith, le)
    go false le = omega (arith, le)

-- a stone without some of its tablets
pub IsStone-kept : (s : StoneShape) (keep : Listed → Bool) → IsStone s → IsStone (record { kept = s.kept; low = s.low; ttl = s.ttl; next_file = s.next_file; schemas = s.schemas; tablets = filter keep s.tablets })
IsStone-kept s keep is = record {
  kept = is.kept;
  low = is.low;
  ttl = is.ttl;
  next_file = is.next_file;
  schemas = is.schemas;
  few = omega (arith, is.few, fewer_kept keep s.tablets);
  tablets = each_kept s.kept s.next_file keep s.tablets is.tablets;
  rising = rises_kept keep s.tablets is.rising;
  once = differ_kept keep s.tablets is.once;
}
