-- What a read gives stays possible.
use Rattle.std.proofs.lemmas.List.Elements.{Contains-get_or, Contains-push}
use Rattle.std.proofs.Common.{◌≡◌, ◌≢◌, ◌↔◌, IsSome, All, slice_index_or, ⊎_elim, ◌≤◌, ◌<◌, ◌+◌, ◌^◌, ℕ, Bool, true, false, cond, nat_eq, List, [], ◌∷◌, ◌++◌, Option, Some, None, Contains, refl, sym, ◌∙◌, ap, subst, arith, eqb-true, eq-eqb, ne_eqb}
use Rattle.lt_io.specs.Directory.{State, Image, Contents, Fits, file_at, entered, loosened}
use Rattle.std.proofs.lemmas.Bool.{cases_lt}
use Rattle.std.proofs.lemmas.Cmp.{nat_eq_equiv}
use Rattle.std.proofs.lemmas.Map.Views.{IsSome-lookup_from_Contains, Contains-keys_from_lookup}
use Rattle.std.specs.Map.{keys_of}
use Rattle.lt_io.specs.Device.{Moves, SeesOthers}
use Rattle.lt_io.proofs.Moments.{Fits-entered_from, file_at-loosened}
use Rattle.lt_memdev.specs.Files.{Puts, above}
use Rattle.lt_memdev.proofs.Numbers.{none_above, above_least}
use Rattle.lt_memdev.specs.History.{Course}
use Rattle.lt_memdev.specs.Stored.{IsStored}

put_other : (before after : Contents) (number other : ℕ) (here : Option (List ℕ)) → Puts before after number here → other ≢ number → file_at after other ≡ file_at before other
put_other before after number other here puts apart = puts other ∙ ap (λ b. cond b here (file_at before other)) (ne_eqb other number apart)

pub put_here : (before after : Contents) (number : ℕ) (here : Option (List ℕ)) → Puts before after number here → file_at after number ≡ here
put_here before after number here puts = puts number ∙ ap (λ b. cond b here (file_at before number)) (eq-eqb number number refl)

-- a read gives all else as before
pub sees_others : (seen now_seen : Image) (number : ℕ) (here : Option (List ℕ)) → Puts seen.files now_seen.files number here → now_seen.descriptor ≡ seen.descriptor → SeesOthers seen now_seen number
sees_others seen now_seen number here puts same = record { descriptor = same; others = λ other apart. put_other seen.files now_seen.files number other here puts apart }

loose_stood : (b : Bool) (given : List ℕ) (o now before here : Option (List ℕ)) → now ≡ cond b here before → (o ≡ Some given → before ≡ Some given) → cond b None o ≡ Some given → now ≡ Some given
loose_stood true given o now before here e stands loose = absurd (let no : None ≡ Some given = loose in cc)
loose_stood false given o now before here e stands stood = e ∙ stands stood

absent_put : (b : Bool) (now before here : Option (List ℕ)) → now ≡ cond b here before → (b ≡ true → here ≡ None) → before ≡ None → now ≡ None
absent_put true now before here e loose none = e ∙ loose refl
absent_put false now before here e loose none = e ∙ none

-- a change of a file of which nothing is known
pub Fits-put : (state : State) (seen now_seen : Image) (number : ℕ) (here : Option (List ℕ)) → (state.ceiling ≤ number → here ≡ None) → Puts seen.files now_seen.files number here → now_seen.descriptor ≡ seen.descriptor
    → Fits seen state → Fits now_seen (loosened state number)
Fits-put state seen now_seen number here loose puts same fits = record {
  entered = λ other given e. loose_stood (nat_eq other number) given (file_at state.files other) (file_at now_seen.files other) (file_at seen.files other) here
      (puts other) (fits.entered other given) (sym (file_at-loosened state number other) ∙ e);
  absent = λ other above. absent_put (nat_eq other number) (file_at now_seen.files other) (file_at seen.files other) here (puts other)
      (λ same. loose (let here : other ≡ number = eqb-true other number same in omega arith)) (fits.absent other above);
  descriptor = subst (Contains state.may) (sym same) fits.descriptor;
}

-- a file that is entered
pub Fits-put_entered : (state : State) (seen now_seen : Image) (number : ℕ) (bytes : List ℕ) → number < state.ceiling → Puts seen.files now_seen.files number (Some bytes) → now_seen.descriptor ≡ seen.descriptor
    → Fits seen state → Fits now_seen (entered state number bytes)
Fits-put_entered state seen now_seen number bytes within puts same fits =
    Fits-entered_from now_seen state number bytes
    (Fits-put state seen now_seen number (Some bytes) (λ above. absurd (omega arith)) puts same fits)
    (put_here seen.files now_seen.files number (Some bytes) puts)

-- ---- a moment more, of a directory whose history has `ready` as its course once there is room for it

module _ (held ready course : Course) (seen now_seen : Image) (lent spare : ℕ) (next : State) (same : ready.now ≡ held.now) (now : course.now ≡ next) (ceiling : next.ceiling ≡ held.now.ceiling) (fits : Fits now_seen next) where
  pub stays_stored : IsStored held seen lent spare → spare + 1 ≤ ready.room → ready.room ≤ course.room + 1 → IsStored course now_seen lent spare
  stays_stored was room falls = record {
    possible = subst (Fits now_seen) (sym now) fits;
    ceiling = subst (λ state. state.ceiling ≤ 2 ^ 62) (sym now) (omega (arith, was.ceiling));
    lends = subst (λ state. lent ≤ state.ceiling) (sym now) (omega (arith, was.lends));
    room = omega arith;
    few = was.few;
  }

  pub moves_on : course.past ≡ ready.past ++ ready.now ∷ [] → ready.past ≡ held.past
      → Moves record { past = held.past; now = held.now; seen = seen; lends = lent } record { past = course.past; now = course.now; seen = now_seen; lends = lent } next
  moves_on past past_same = record {
    past = past ∙ (λ i. past_same i ++ same i ∷ []);
    now = now;
    possible = subst (Fits now_seen) (sym now) fits;
  }

-- ---- a listing

-- a file that is there is below the ceiling
pub there_below : (seen : Image) (state : State) (number : ℕ) → Fits seen state → IsSome (file_at seen.files number) → number < state.ceiling
there_below seen state number fits there =
    ⊎_elim (λ below. below) (λ above. let none : IsSome {T = List ℕ} None = subst IsSome (fits.absent number above) there in absurd (let no : false ≡ true = none in cc)) (cases_lt number state.ceiling)

pub listed : (files : Contents) (number : ℕ) → Contains (keys_of files) number ↔ IsSome (file_at files number)
listed files number = (IsSome-lookup_from_Contains nat_eq_equiv number files, Contains-keys_from_lookup eqb-true number files)

-- each number of the listing is below the ceiling
pub listed_below : (numbers : List ℕ) (seen : Image) (state : State) (ceiling : ℕ) → numbers ≡ keys_of seen.files → ceiling ≡ state.ceiling → Fits seen state → All (λ number. number < ceiling) numbers
listed_below numbers seen state ceiling same at fits k d within =
    let number : ℕ = slice_index_or numbers k d in
    let in_list : Contains numbers number = Contains-get_or numbers k d within in
    let below : number < state.ceiling = there_below seen state number fits ((listed seen.files number).0 (subst (λ ns. Contains ns number) same in_list)) in
    subst (λ c. number < c) (sym at) below

-- a directory that begins with its files
pub stored_first : (course : Course) (files : Contents) (descriptor : Option (List ℕ)) → course.now ≡ record { files = files; may = descriptor ∷ []; ceiling = above files } → ((number : ℕ) → IsSome (file_at files number) → number < 2 ^ 62)
    → IsStored course record { files = files; descriptor = descriptor } 0 0
stored_first course files descriptor now each = record {
  possible = subst (Fits record { files = files; descriptor = descriptor }) (sym now) record {
    entered = λ number bytes e. e;
    absent = λ number past. none_above files number past;
    descriptor = Contains-push [] descriptor;
  };
  ceiling = subst (λ state. state.ceiling ≤ 2 ^ 62) (sym now) (above_least files (2 ^ 62) each);
  lends = omega arith;
  room = omega arith;
  few = omega arith;
}
