-- A ticket goes out with the next file numbers.
use Rattle.std.proofs.Common.{◌≡◌, ◌⊎◌, ℕ, zero, suc, ◌+◌, ◌^◌, ◌≤◌, ◌<◌, Bool, true, false, cond, List, [], ◌∷◌, ◌++◌, length, map, get_or, Contains, refl, sym, ◌∙◌, ap, subst, inl, inr, ⊎_elim, arith, length-append}
use Rattle.std.specs.List.{range_with_len}
use Rattle.std.proofs.lemmas.Bool.{cases_lt}
use Rattle.std.specs.List.Sorted.{IsStrictlyIncreasing}
use Rattle.std.proofs.Math.Seq.{get_or-append_seam}
use Rattle.std.proofs.lemmas.List.{get_or_append_left, get_or-map}
use Rattle.std.proofs.lemmas.List.Elements.{Contains-get_or}
use Rattle.std.proofs.lemmas.List.FromFn.{length-range_with_len, get_or-range_with_len}
use Rattle.lt_commit.specs.Anchored.{Anchored}
use Rattle.lt_trace.specs.Elements.{Story, notes_of}
use Rattle.lt_state.specs.State.{Core, Ticket}
use Rattle.lt_state.specs.Stands.{StandsFor}
use Rattle.lt_events.specs.Cores.{with_lent, IsFree, HasRoom}
use Rattle.lt_events.proofs.Lending.{room_begins, lend_stands}
use Rattle.lt_events.proofs.Tickets.{ticket_stands}
use Rattle.lt_core.specs.Lending.{LendsOne, LendsEach, with_numbers, next_ticket_of, with_given, AreNoted}
use Rattle.lt_core.specs.Parts.{IsTable}
use Rattle.lt_core.proofs.Lists.{length_of_map}
use Rattle.lt_core.proofs.Stones.{lawful_under}

below_or_last : (a b : ℕ) → a < b + 1 → (a < b) ⊎ (b ≡ a)
below_or_last a b h = ⊎_elim (λ less. inl less) (λ no_less. inr (omega arith)) (cases_lt a b)

-- numbers that rise, and one above all of them
pub rising_push : (xs : List ℕ) (y : ℕ) → IsStrictlyIncreasing xs → ((k : ℕ) → k < length xs → get_or xs k 0 < y) → IsStrictlyIncreasing (xs ++ y ∷ [])
rising_push xs y rising below k within = ⊎_elim
    (λ inner.
    let a : get_or (xs ++ y ∷ []) k 0 ≡ get_or xs k 0 = get_or_append_left xs (y ∷ []) 0 k (omega arith) in
    let b : get_or (xs ++ y ∷ []) (k + 1) 0 ≡ get_or xs (k + 1) 0 = get_or_append_left xs (y ∷ []) 0 (k + 1) inner in
    omega (arith, a, b, rising k inner))
    (λ seam.
    let a : get_or (xs ++ y ∷ []) k 0 ≡ get_or xs k 0 = get_or_append_left xs (y ∷ []) 0 k (omega arith) in
    let b : get_or (xs ++ y ∷ []) (k + 1) 0 ≡ y = ap (λ n. get_or (xs ++ y ∷ []) n 0) (sym seam) ∙ get_or-append_seam xs y [] 0 in
    omega (arith, a, b, below k (omega arith)))
    (below_or_last (k + 1) (length xs) (omega (arith, within, length-append xs (y ∷ []))))

map_push : {A B : Type 0} (f : A → B) (xs : List A) (y : A) → map f (xs ++ y ∷ []) ≡ map f xs ++ f y ∷ []
map_push f [] y = refl
map_push f (x ∷ xs) y = ap (λ ys. f x ∷ ys) (map_push f xs y)

pub range_more : (first count : ℕ) → range_with_len first (count + 1) ≡ range_with_len first count ++ (first + count) ∷ []
range_more first zero = ap (λ n. n ∷ []) (stays first)
  where
    stays : (n : ℕ) → n ≡ n + zero
    stays n = omega arith
range_more first (suc count) =
    ap (λ n. range_with_len first n) (next_one (suc count)) ∙ ap (λ ns. first ∷ ns) (ap (λ n. range_with_len (first + 1) n) (sym (next_one count)) ∙ range_more (first + 1) count ∙ ap (λ n. range_with_len (first + 1) count ++ n ∷ []) (over first count))
  where
    next_one : (n : ℕ) → n + 1 ≡ suc n
    next_one n = omega arith

    over : (a b : ℕ) → a + 1 + b ≡ a + suc b
    over a b = omega arith

-- a push that was not refused
pub pushed : {X : Type 0} (b : Bool) (new old more : List X) → b ≡ true → new ≡ cond b more old → new ≡ more
pushed true new old more e is = is
pushed false new old more e is = cc

pub numbers_more : {X : Type 0} (number : X → ℕ) (old new : List X) (x : X) (first count : ℕ) → new ≡ old ++ x ∷ [] → number x ≡ first + count → map number old ≡ range_with_len first count → map number new ≡ range_with_len first (count + 1)
numbers_more number old new x first count new_is x_is old_is =
    ap (map number) new_is ∙ map_push number old x ∙ (λ i. old_is i ++ x_is i ∷ []) ∙ sym (range_more first count)

-- one number more was lent
pub lends_more : (told : Bool) (first count : ℕ) (before between after : Anchored) → LendsEach told first count before between → LendsOne told (first + count) between after → LendsEach told first (count + 1) before after
lends_more told first count before between after each one = subst (λ n. LendsEach told first n before after) (next_one count) (between, each, one)
  where
    next_one : (n : ℕ) → suc n ≡ n + 1
    next_one n = omega arith

pub lent_ceiling : (told : Bool) (first count : ℕ) (before after : Anchored) → before.directory.now.ceiling ≤ first → LendsEach told first count before after → after.directory.now.ceiling ≤ first + count
lent_ceiling told first zero before after below same = omega (arith, below, ap (λ (a : Anchored). a.directory.now.ceiling) same)
lent_ceiling told first (suc more) before after below lends = omega (arith, lends.2.ceiling)

range_rises : (first count : ℕ) → IsStrictlyIncreasing (range_with_len first count)
range_rises first count k within =
    let n : length (range_with_len first count) ≡ count = length-range_with_len first count in
    let a : get_or (range_with_len first count) k 0 ≡ first + k = get_or-range_with_len first count k 0 (omega arith) in
    let b : get_or (range_with_len first count) (k + 1) 0 ≡ first + (k + 1) = get_or-range_with_len first count (k + 1) 0 (omega arith) in
    omega (arith, a, b)

in_range : (first count file : ℕ) → Contains (range_with_len first count) file → (first ≤ file) × (file < first + count)
in_range first count file among =
    let n : length (range_with_len first count) ≡ count = length-range_with_len first count in
    let is : get_or (range_with_len first count) among.0 file ≡ first + among.0 = get_or-range_with_len first count among.0 file (omega (arith, among.1)) in
    let same : get_or (range_with_len first count) among.0 file ≡ file = among.2 in
    (omega (arith, is, same), omega (arith, is, same, among.1))

-- so many numbers were lent: the core stands for the same story, and each of them is free
pub record AreLent (told : Bool) (c : Core) (s : Story) (count : ℕ) (after : Anchored) : Type 0 where
  pub stands : StandsFor told (with_numbers c count after) s
  pub room : HasRoom (with_numbers c count after) s count
  pub free : (file : ℕ) → c.next_file ≤ file → file < c.next_file + count → IsFree (with_numbers c count after) (notes_of s) file

pub are_lent : (told : Bool) (c : Core) (s : Story) (count : ℕ) (after : Anchored) → StandsFor told c s → c.next_file + count ≤ 2 ^ 62 → LendsEach told c.next_file count c.anchor after → AreLent told c s count after
are_lent told c s zero after stands most lends =
    let same : c ≡ with_numbers c zero after = (λ i. record c { next_file = stays c.next_file i; anchor = sym lends i }) in
    record {
      stands = subst (λ (x : Core). StandsFor told x s) same stands;
      room = subst (λ (x : Core). HasRoom x s 0) same (room_begins told c s stands);
      free = λ file from to. absurd (omega arith);
    }
  where
    stays : (n : ℕ) → n ≡ n + zero
    stays n = omega arith
are_lent told c s (suc more) after stands most lends =
    let so_far : AreLent told c s more lends.0 = are_lent told c s more lends.0 stands (omega arith) lends.1 in
    let one = lends.2 in
    let mid : Core = with_numbers c more lends.0 in
    let step = lend_stands told mid s after so_far.stands one.was (omega arith) one.directory one.ceiling one.lends one.may in
    let same : with_lent mid after ≡ with_numbers c (suc more) after = (λ i. record c { next_file = next c.next_file more i; anchor = after }) in
    record {
      stands = subst (λ (x : Core). StandsFor told x s) same step.0;
      room = subst (λ (x : Core). HasRoom x s (suc more)) same (subst (λ (n : ℕ). HasRoom (with_lent mid after) s n) (next_one more) (step.3 more so_far.room));
      free = λ file from to. subst (λ (x : Core). IsFree x (notes_of s) file) same (⊎_elim
          (λ before. step.2 file (so_far.free file from before))
          (λ last. subst (IsFree (with_lent mid after) (notes_of s)) last step.1)
          (below_or_last file (c.next_file + more) (omega arith)));
    }
  where
    next : (n more : ℕ) → n + more + 1 ≡ n + suc more
    next n more = omega arith

    next_one : (more : ℕ) → more + 1 ≡ suc more
    next_one more = omega arith

pub given_stands : (told : Bool) (c : Core) (s : Story) (count : ℕ) (handed : List ℕ) (after : Anchored) → StandsFor told c s → c.next_file + count ≤ 2 ^ 62 → LendsEach told c.next_file count c.anchor after → AreNoted s handed
    → StandsFor told (with_given c count handed after) s
given_stands told c s count handed after stands most lends noted =
    let lent : AreLent told c s count after = are_lent told c s count after stands most lends in
    let ticket : Ticket = next_ticket_of c count handed in
    let numbers : List ℕ = map (λ (t : Ticket). t.number) c.tickets in
    let below : (k : ℕ) → k < length numbers → get_or numbers k 0 < c.next_ticket = λ k within.
    (let inside : k < length c.tickets = omega (arith, within, length_of_map (λ (t : Ticket). t.number) c.tickets) in
    let is : get_or numbers k 0 ≡ (get_or c.tickets k ticket).number = get_or-map (λ (t : Ticket). t.number) c.tickets k ticket 0 inside in
    omega (arith, is, stands.tickets.below (get_or c.tickets k ticket) (Contains-get_or c.tickets k ticket inside))) in
    ticket_stands told (with_numbers c count after) s ticket lent.stands refl
    (subst IsStrictlyIncreasing (sym (map_push (λ (t : Ticket). t.number) c.tickets ticket)) (rising_push numbers c.next_ticket stands.tickets.rising below))
    (range_rises c.next_file count)
    (subst (λ (n : ℕ). HasRoom (with_numbers c count after) s n) (sym (length-range_with_len c.next_file count)) lent.room)
    (λ file among. let within = in_range c.next_file count file among in lent.free file within.0 within.1)
    noted

-- the same by the fields of the code
pub given_from : (c old : Core) (count number : ℕ) (lent handed : List ℕ) (tickets : List Ticket) (after : Anchored) → c ≡ old → number ≡ c.next_ticket + 1 → lent ≡ range_with_len c.next_file count
    → tickets ≡ c.tickets ++ record { number = c.next_ticket; lent = lent; handed = handed } ∷ [] → record c { next_file = c.next_file + count; next_ticket = number; tickets = tickets; anchor = after } ≡ with_given old count handed after
given_from c old count number lent handed tickets after is number_is lent_is tickets_is =
    let all : tickets ≡ c.tickets ++ next_ticket_of c count handed ∷ [] = tickets_is ∙ ap (λ (l : List ℕ). c.tickets ++ record { number = c.next_ticket; lent = l; handed = handed } ∷ []) lent_is in
    (λ i. record c { next_file = c.next_file + count; next_ticket = number_is i; tickets = all i; anchor = after }) ∙ ap (λ (x : Core). with_given x count handed after) is

pub given_stands_from : (told : Bool) (c old : Core) (count number : ℕ) (lent handed : List ℕ) (tickets : List Ticket) (after : Anchored) → c ≡ old → number ≡ c.next_ticket + 1 → lent ≡ range_with_len c.next_file count
    → tickets ≡ c.tickets ++ record { number = c.next_ticket; lent = lent; handed = handed } ∷ [] → old.next_file + count ≤ 2 ^ 62 → LendsEach told c.next_file count c.anchor after
    → (s : Story) → StandsFor told old s → AreNoted s handed → StandsFor told (record c { next_file = c.next_file + count; next_ticket = number; tickets = tickets; anchor = after }) s
given_stands_from told c old count number lent handed tickets after is number_is lent_is tickets_is most lends s stands noted =
    subst (λ (x : Core). StandsFor told x s) (sym (given_from c old count number lent handed tickets after is number_is lent_is tickets_is))
    (given_stands told old s count handed after stands most (subst (λ (x : Core). LendsEach told x.next_file count x.anchor after) is lends) noted)

-- what holds of each core holds of it
pub given_table_from : (c old : Core) (told : Bool) (count number : ℕ) (tickets : List Ticket) (after : Anchored) → c ≡ old → IsTable c → old.next_file + count ≤ 2 ^ 62 → LendsEach told c.next_file count c.anchor after
    → IsTable (record c { next_file = c.next_file + count; next_ticket = number; tickets = tickets; anchor = after })
given_table_from c old told count number tickets after same is most lends =
    let file : c.next_file ≡ old.next_file = ap (λ (x : Core). x.next_file) same in
    record {
      lawful = lawful_under c c.schemas (c.next_file + count) is is.lawful.schemas (omega arith) (omega (arith, most, file));
      free = lent_ceiling told c.next_file count c.anchor after is.free lends;
    }
