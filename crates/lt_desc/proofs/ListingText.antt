-- The list of tablets: what is read is so spelled, and what is so spelled is read.
use Rattle.std.proofs.Common.{◌≡◌, ℕ, suc, ◌+◌, ◌-◌, ◌%◌, ◌^◌, ◌<◌, ◌≤◌, Bool, true, false, eqb, leb, ltb, List, [], ◌∷◌, ◌++◌, length, Result, Ok, refl, sym, ap, subst, ◌∙◌, append_assoc, arith}
use Rattle.std.specs.Prelude.{not, ◌&&◌, ◌||◌, slice_get, nat_lt, nat_le}
use Rattle.std.specs.Option.{option_map_or}
use Rattle.std.specs.List.{list_all, flat_map, AllByRecursion}
use Rattle.std.specs.Int.{w32, w64, to_be_bytes}
use Rattle.std.proofs.lemmas.Bool.{eqb-true, eq-eqb, ne_eqb, and_parts, and_from, ltb-true, lt-ltb, leb-true, le-leb}
use Rattle.std.proofs.lemmas.List.{length-append, append-nil}
use Rattle.std.proofs.lemmas.List.Folds.{list_any-append}
use Rattle.std.proofs.lemmas.Grind.{flat_map-append}
use Rattle.lt_rec.specs.Periods.{is_period_len}
use Rattle.lt_rec.specs.declared.listed.Listed.{Listed}
use Rattle.lt_desc.specs.declared.listing.Sizes.{Sizes}
use Rattle.lt_desc.specs.declared.listing.Times.{Times}
use Rattle.lt_desc.specs.Lawful.{lists_file, files_differ, comes_before, rises, IsListed, fits_tablet}
use Rattle.lt_desc.specs.Spelling.{tablet_spelled, listing_spelled}
use Rattle.lt_rec.specs.Reading.{◌>>=◌, place, holds, is_within}
use Rattle.lt_desc.specs.Reading.{number_from, number_where, follows, spans, sizes_at, stretch_at, times_at, span_at, listed_of, tablet_at, behind, repeated, next_tablet, listing_at}
use Rattle.lt_rec.proofs.Reading.{IsBytes, bind_ok, ok_is, holds_ok, Takes, Takes-then, Takes-as}
use Rattle.lt_desc.proofs.Taken.{takes32, takes64, again32, again64, where64, again_where64}
use Rattle.lt_desc.proofs.First.{within_parts, within_from}
use Rattle.lt_desc.proofs.Turns.{turns_keep}
use Rattle.lt_desc.proofs.TabletText.{tablet_takes, tablet_again}
use Rattle.lt_desc.proofs.ColumnText.{not_true, not_false, not_or, or_not, all_more, all_here}

-- ---- lists of tablets

each_more : {A : Type 0} (P : A → Type 0) (before : List A) (x : A) → AllByRecursion P before → P x → AllByRecursion P (before ++ x ∷ [])
each_more P [] x all one = (one, tt)
each_more P (y ∷ before) x all one = (all.0, each_more P before x all.1 one)

each_here : {A : Type 0} (P : A → Type 0) (before : List A) (x : A) (more : List A) → AllByRecursion P (before ++ x ∷ more) → P x
each_here P [] x more all = all.0
each_here P (y ∷ before) x more all = each_here P before x more all.1

apart : (a b : ℕ) → eqb a b ≡ false → eqb b a ≡ false
apart a b e = ne_eqb b a (λ same. clash (eqb a b) e (eq-eqb a b (sym same)))
  where
    clash : (t : Bool) → t ≡ false → t ≡ true → ⊥
    clash true p q = absurd cc
    clash false p q = absurd cc

files_more : (before : List Listed) (t : Listed) → files_differ before ≡ true → lists_file before t.file ≡ false → files_differ (before ++ t ∷ []) ≡ true
files_more [] t differ new = refl
files_more (first ∷ before) t differ new =
    let d = and_parts (not (lists_file before first.file)) (files_differ before) differ in
    let f = not_or (eqb first.file t.file) (lists_file before t.file) new in
    let none : lists_file (before ++ t ∷ []) first.file ≡ false =
    list_any-append (λ (u : Listed). eqb u.file first.file) before (t ∷ []) ∙ or_not (lists_file before first.file) (eqb t.file first.file || false) (not_true _ d.0) (or_not (eqb t.file first.file) false (apart first.file t.file f.0) refl) in
    and_from (not (lists_file (before ++ t ∷ []) first.file)) (files_differ (before ++ t ∷ [])) (not_false _ none) (files_more before t d.1 f.1)

files_new : (before : List Listed) (t : Listed) (more : List Listed) → files_differ (before ++ t ∷ more) ≡ true → lists_file before t.file ≡ false
files_new [] t more differ = refl
files_new (first ∷ before) t more differ =
    let d = and_parts (not (lists_file (before ++ t ∷ more) first.file)) (files_differ (before ++ t ∷ more)) differ in
    let none = not_or (lists_file before first.file) (eqb t.file first.file || lists_file more first.file) (sym (list_any-append (λ (u : Listed). eqb u.file first.file) before (t ∷ more)) ∙ not_true _ d.0) in
    let two_files = not_or (eqb t.file first.file) (lists_file more first.file) none.1 in
    or_not (eqb first.file t.file) (lists_file before t.file) (apart t.file first.file two_files.0) (files_new before t more d.1)

follows_step : (x y : Listed) (before : List Listed) (low file : ℕ) → follows (x ∷ y ∷ before) low file ≡ follows (y ∷ before) low file
follows_step x y before low file =
    let e : length (x ∷ y ∷ before) - 1 ≡ suc (length (y ∷ before) - 1) = omega arith in
    ap (λ (n : ℕ). option_map_or (λ (t : Listed). comes_before t low file) (slice_get (x ∷ y ∷ before) n) true) e

rises_more : (before : List Listed) (t : Listed) → rises before ≡ true → follows before t.low t.file ≡ true → rises (before ++ t ∷ []) ≡ true
rises_more [] t up next = refl
rises_more (x ∷ []) t up next = and_from (comes_before x t.low t.file) true next refl
rises_more (x ∷ y ∷ before) t up next =
    let p = and_parts (comes_before x y.low y.file) (rises (y ∷ before)) up in
    and_from (comes_before x y.low y.file) (rises (y ∷ (before ++ t ∷ []))) p.0 (rises_more (y ∷ before) t p.1 (sym (follows_step x y before t.low t.file) ∙ next))

rises_next : (before : List Listed) (t : Listed) (more : List Listed) → rises (before ++ t ∷ more) ≡ true → follows before t.low t.file ≡ true
rises_next [] t more up = refl
rises_next (x ∷ []) t more up = (and_parts (comes_before x t.low t.file) (rises (t ∷ more)) up).0
rises_next (x ∷ y ∷ before) t more up =
    let p = and_parts (comes_before x y.low y.file) (rises (y ∷ (before ++ t ∷ more))) up in
    follows_step x y before t.low t.file ∙ rises_next (y ∷ before) t more p.1

pub record AreListed (kept next_file : ℕ) (tablets : List Listed) : Type 0 where
  pub each : AllByRecursion (IsListed kept next_file) tablets
  pub rising : rises tablets ≡ true
  pub once : files_differ tablets ≡ true
  pub fits : list_all fits_tablet tablets ≡ true

record TabletsSoFar (kept next_file : ℕ) (text : List ℕ) (count n : ℕ) (tablets : List Listed) (bytes : List ℕ) : Type 0 where
  rest_fits : IsBytes bytes
  parts : text ≡ flat_map tablet_spelled tablets ++ bytes
  many : length tablets + n ≡ count
  are : AreListed kept next_file tablets

tablets_over : (kept next_file count total : ℕ) (text : List ℕ) (n : ℕ) (tablets : List Listed) (bytes : List ℕ) (x : List Listed × List ℕ) → TabletsSoFar kept next_file text count (suc n) tablets bytes → next_tablet kept next_file total tablets bytes ≡ Ok x
    → TabletsSoFar kept next_file text count n x.0 x.1
tablets_over kept next_file count total text n tablets bytes x so_far e =
    let a = bind_ok (tablet_at kept next_file tablets total bytes) (behind tablets) x e in
    let found = tablet_takes kept next_file tablets total bytes a.0 so_far.rest_fits a.1 in
    subst (λ (p : List Listed × List ℕ). TabletsSoFar kept next_file text count n p.0 p.1) (ok_is (tablets ++ a.0.0 ∷ [], a.0.1) x a.2) (record {
      rest_fits = found.takes.rest_fits;
      parts = so_far.parts ∙ (ap (λ (t : List ℕ). flat_map tablet_spelled tablets ++ t) found.takes.parts ∙ (sym (append_assoc (flat_map tablet_spelled tablets) (tablet_spelled a.0.0) a.0.1)
          ∙ ap (λ (t : List ℕ). t ++ a.0.1) (ap (λ (t : List ℕ). flat_map tablet_spelled tablets ++ t) (sym (append-nil (tablet_spelled a.0.0))) ∙ sym (flat_map-append tablet_spelled tablets (a.0.0 ∷ [])))));
      many = omega (arith, so_far.many, length-append tablets (a.0.0 ∷ []));
      are = record {
        each = each_more (IsListed kept next_file) tablets a.0.0 so_far.are.each found.is;
        rising = rises_more tablets a.0.0 so_far.are.rising found.behind;
        once = files_more tablets a.0.0 so_far.are.once found.new;
        fits = all_more fits_tablet tablets a.0.0 so_far.are.fits found.fits;
      };
    })

tablets_back : (kept next_file total : ℕ) (more before whole : List Listed) (rest : List ℕ) → whole ≡ before ++ more → kept ≤ 2 ^ 62 → next_file ≤ 2 ^ 62 → AreListed kept next_file whole
    → repeated (next_tablet kept next_file total) (length more) before (flat_map tablet_spelled more ++ rest) ≡ Ok (whole, rest)
unfolding repeated
tablets_back kept next_file total [] before whole rest split bound_upto bound_file is = ap (λ (ts : List Listed). Ok (ts, rest)) (sym (split ∙ append-nil before))
tablets_back kept next_file total (t ∷ more) before whole rest split bound_upto bound_file is =
    let tail : List ℕ = flat_map tablet_spelled more ++ rest in
    let regrouped : flat_map tablet_spelled (t ∷ more) ++ rest ≡ tablet_spelled t ++ (flat_map tablet_spelled more ++ rest) = append_assoc (tablet_spelled t) (flat_map tablet_spelled more) rest in
    let all = subst (AreListed kept next_file) split is in
    let one : tablet_at kept next_file before total (tablet_spelled t ++ tail) ≡ Ok (t, tail) =
    tablet_again kept next_file before total t tail (each_here (IsListed kept next_file) before t more all.each) bound_upto bound_file (files_new before t more all.once) (rises_next before t more all.rising) (all_here fits_tablet before t more all.fits) in
    let next : next_tablet kept next_file total before (tablet_spelled t ++ tail) ≡ Ok (before ++ t ∷ [], tail) = ap (λ (q : Result (Listed × List ℕ) ℕ). q >>= behind before) one in
    ap (repeated (next_tablet kept next_file total) (suc (length more)) before) regrouped
    ∙ (ap (λ (q : Result (List Listed × List ℕ) ℕ). q >>= λ x. repeated (next_tablet kept next_file total) (length more) x.0 x.1) next
    ∙ tablets_back kept next_file total more (before ++ t ∷ []) whole rest (split ∙ sym (append_assoc before (t ∷ []) more)) bound_upto bound_file is)

-- ---- the whole list

pub record ListingFound (kept next_file : ℕ) (bytes : List ℕ) (tablets : List Listed) : Type 0 where
  pub parts : bytes ≡ listing_spelled tablets
  pub few : length tablets < 2 ^ 32
  pub are : AreListed kept next_file tablets

empty : (bytes : List ℕ) → eqb (length bytes) 0 ≡ true → bytes ≡ []
empty [] e = refl
empty (b ∷ bytes) e = absurd (omega (arith, eqb-true (length (b ∷ bytes)) 0 e))

abbrev checked : ℕ → List Listed × List ℕ → Result (List Listed) ℕ
checked total tablets = holds (eqb (length tablets.1) 0) (place total tablets.1) >>= λ ended. Ok tablets.0

abbrev from_count : (kept next_file total : ℕ) → ℕ × List ℕ → Result (List Listed) ℕ
from_count kept next_file total count = repeated (next_tablet kept next_file total) count.0 [] count.1 >>= checked total

pub listing_takes : (kept next_file total : ℕ) (bytes : List ℕ) (tablets : List Listed) → IsBytes bytes → listing_at kept next_file total bytes ≡ Ok tablets → ListingFound kept next_file bytes tablets
unfolding listing_at listing_spelled
listing_takes kept next_file total bytes tablets fits e =
    let a = bind_ok (number_from w32 total bytes) (from_count kept next_file total) tablets e in
    let b = bind_ok (repeated (next_tablet kept next_file total) a.0.0 [] a.0.1) (checked total) tablets a.2 in
    let c = bind_ok (holds (eqb (length b.0.1) 0) (place total b.0.1)) (λ ended. Ok b.0.0) tablets b.2 in
    let ta = takes32 total bytes a.0 fits a.1 in
    let start : TabletsSoFar kept next_file a.0.1 a.0.0 a.0.0 [] a.0.1 = record { rest_fits = ta.0.rest_fits; parts = refl; many = omega arith; are = record { each = tt; rising = refl; once = refl; fits = refl } } in
    let f = turns_keep (next_tablet kept next_file total) (TabletsSoFar kept next_file a.0.1 a.0.0) (tablets_over kept next_file a.0.0 total a.0.1) a.0.0 [] a.0.1 b.0 start b.1 in
    let many : length b.0.0 ≡ a.0.0 = omega (arith, f.many) in
    let none : b.0.1 ≡ [] = empty b.0.1 (holds_ok (eqb (length b.0.1) 0) (place total b.0.1) c.0 c.1) in
    let text : a.0.1 ≡ flat_map tablet_spelled b.0.0 = f.parts ∙ (ap (λ (t : List ℕ). flat_map tablet_spelled b.0.0 ++ t) none ∙ append-nil (flat_map tablet_spelled b.0.0)) in
    subst (ListingFound kept next_file bytes) (ok_is b.0.0 tablets c.2) (record {
      parts = ta.0.parts ∙ (ap (λ (t : List ℕ). to_be_bytes w32 a.0.0 ++ t) text ∙ ap (λ (n : ℕ). to_be_bytes w32 n ++ flat_map tablet_spelled b.0.0) (sym many));
      few = omega (arith, many, ta.1);
      are = f.are;
    })

pub listing_again : (kept next_file total : ℕ) (tablets : List Listed) → kept ≤ 2 ^ 62 → next_file ≤ 2 ^ 62 → length tablets < 2 ^ 32 → AreListed kept next_file tablets → listing_at kept next_file total (listing_spelled tablets) ≡ Ok tablets
unfolding listing_at listing_spelled
listing_again kept next_file total tablets bound_upto bound_file few are =
    let text : flat_map tablet_spelled tablets ≡ flat_map tablet_spelled tablets ++ [] = sym (append-nil (flat_map tablet_spelled tablets)) in
    ap (λ (q : Result (ℕ × List ℕ) ℕ). q >>= from_count kept next_file total) (again32 total (length tablets) (flat_map tablet_spelled tablets) few)
    ∙ (ap (λ (t : List ℕ). repeated (next_tablet kept next_file total) (length tablets) [] t >>= checked total) text
    ∙ ap (λ (q : Result (List Listed × List ℕ) ℕ). q >>= checked total) (tablets_back kept next_file total tablets [] tablets [] refl bound_upto bound_file are))
