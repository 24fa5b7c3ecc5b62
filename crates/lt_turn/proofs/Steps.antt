-- Each step keeps the rule.
use Rattle.std.proofs.Common.{◌≡◌, ◌≢◌, ◌⊎◌, ℕ, zero, suc, pred, ◌+◌, ◌<◌, ◌≤◌, List, [], ◌∷◌, ◌++◌, length, set, refl, sym, ap, ◌∙◌, subst, ⊎_elim, inl, inr, arith, append-nil, length-append, length-set, None}
use Rattle.std.specs.Prelude.{Option, slice_index, slice_set}
use mathlib.Core.Option as maybe
use mathlib.Core.Option.{some, none, some-ne-none, some-injective}
use lib.ListN.{get_elem?}
use Rattle.atomic_table.specs.Table.{State, Me, Step, Act, keeps, takes, gives, Valid, put_back, carried_after, stepped, opening, Allows}
use Rattle.atomic_table.proofs.Lists.{set_again}
use Rattle.lt_turn.specs.declared.view.View.{View}
use Rattle.lt_turn.specs.declared.view.Role.{Role}
use Rattle.lt_turn.specs.declared.view.Role.TheVariants.{Vacant, Note, Idle, Holding, Level, Shut, Spent}
use Rattle.lt_turn.specs.Lists.{numbered, of, Differ, numbers}
use Rattle.lt_turn.specs.Rule.{Desk, free, held, level, vacant, shut, IsOpen, LockFits, Stocked, Accounts, as_role, first, opened, read, raised, opens, gives_back, tries, raises, shuts, reads}
use Rattle.lt_turn.proofs.ByRole.{Sits, FitsAs, HomeFits, ByRole}
use Rattle.lt_turn.proofs.Lists.{prefix_self, prefix_trans, every_more, every_both, number_every, of_other, of_behind, of_own, length-numbered}
use Rattle.lt_turn.proofs.Keeps.{at_self, whole_set, By, fit_set, others_fit, sits_longer, has_set}

-- what a step is told; these tell nothing of it
abbrev pub any : {S : Type 0} → Step S
any = record { slots = 0; word = 0; first = 0; second = 0; said = none }

pub at_bound : {A : Type 0} (l : List A) (i : ℕ) (a : A) → get_elem? l i ≡ some a → i < length l
at_bound [] i a e = absurd (some-ne-none a (sym e))
at_bound (x ∷ xs) zero a e = omega arith
at_bound (x ∷ xs) (suc i) a e = let h = at_bound xs i a e in omega arith

by_desk : (d : Desk) (n m : ℕ) → LockFits d n → 0 < m → (d ≡ free) ⊎ ((0 < n) × LockFits d m)
by_desk free n m h p = inl refl
by_desk (held i) n m h p = inr (h, p)
by_desk (level i) n m h p = inr (h, p)
by_desk (vacant i) n m h p = inr (h, p)
by_desk (shut i) n m h p = inr (h, p)

module _ {X : Type 0} where
  sits_as : (log : List (ℕ × X)) (owner : ℕ → ℕ) (i : ℕ) (r : Role) (v : View X) → Sits log owner i v → Sits log owner i (as_role r v)
  sits_as log owner i r v s = record { seen = s.seen; told = s.told; opening = s.opening; own = s.own; own_seen = s.own_seen; ended = s.ended; apart = s.apart; owner_is = s.owner_is }

  accounts : (log : List (ℕ × X)) (owner : ℕ → ℕ) (i : ℕ) (v : View X) → Sits log owner i v → v.number ≡ suc i → Accounts log v
  accounts log owner i v s is = record {
    own = ap (λ (n : ℕ). of n log) is ∙ s.own;
    ended = every_more (λ (e : ℕ × List X). (of e.0 log ≡ e.1) × (owner e.0 ≡ i)) (λ (e : ℕ × List X). of e.0 log ≡ e.1) v.ended (λ e h. h.0) s.ended;
    apart = subst (λ (n : ℕ). Differ (0 ∷ n ∷ numbers v.ended)) (sym is) s.apart;
  }

module _ {H T X : Type 0} (stands : T → List X → Type 0) (value : H → Option T) (book : H → ℕ) where
  abbrev St : Type 0
  St = State (Option H) (View X)

  abbrev M : Type 0
  M = Me (Option H) (View X)

  abbrev Rule : St → Type 0
  Rule = ByRole stands value book

  -- the rule's word on the view of the seat that steps
  pub fits : (s : St) (k : Rule s) (id : ℕ) (v : View X) (r : Role) → get_elem? s.views id ≡ some v → v.role ≡ r → FitsAs r k.desk k.log k.owner id v
  fits s k id v r at is = subst (λ (q : Role). FitsAs q k.desk k.log k.owner id v) is (k.views_fit id v at)

  pub freshly : (s : St) (k : Rule s) (id : ℕ) (w : View X) → (i : ℕ) → length (set s.views id w) ≤ i → (of (suc i) k.log ≡ []) × (k.owner (suc i) ≡ i)
  freshly s k id w i le = k.fresh i (let l = length-set s.views id w in omega arith)

  pub begins : Rule (opening (1 ∷ 0 ∷ []) (None ∷ []) first)
  begins = record {
    log = [];
    desk = vacant 0;
    owner = pred;
    lock = 1;
    home = some None;
    words = refl;
    homes = refl;
    lock_fits = omega arith;
    desk_fits = (first, refl, refl);
    home_fits = refl;
    views_fit = one;
    whole = (0, first, refl, inl refl);
    fresh = λ i le. (refl, omega arith);
  }
    where
      one : (i : ℕ) (v : View X) → get_elem? (first ∷ []) i ≡ some v → FitsAs v.role (vacant 0) [] pred i v
      one zero v e = subst (λ (u : View X). FitsAs u.role (vacant 0) [] pred 0 u) (some-injective first v e) (
        refl,
        record { seen = ([], refl); told = ([], refl); opening = refl; own = refl; own_seen = refl; ended = tt; apart = (((λ q. omega arith), tt), (tt, tt)); owner_is = refl },
        refl,
      )
      one (suc i) v e = absurd (some-ne-none v (sym e))

  -- where a turn has no value yet, all other views are spent
  only : (r : Role) (i id : ℕ) (desk desk' : Desk) (log log' : List (ℕ × X)) (owner : ℕ → ℕ) (v : View X) → desk ≡ vacant id → i ≢ id → FitsAs r desk log owner i v → FitsAs r desk' log' owner i v
  only Vacant i id desk desk' log log' owner v is ne f = absurd (ne (cc (is, f.0)))
  only Note i id desk desk' log log' owner v is ne f = absurd (subst IsOpen is f.0)
  only Idle i id desk desk' log log' owner v is ne f = absurd (subst IsOpen is f.0)
  only Holding i id desk desk' log log' owner v is ne f = absurd (cc (is, f.0))
  only Level i id desk desk' log log' owner v is ne f = absurd (cc (is, f.0))
  only Shut i id desk desk' log log' owner v is ne f = absurd (cc (is, f.0))
  only Spent i id desk desk' log log' owner v is ne f = tt

  pub opens_turn : (slots id : ℕ) (m : M) (list : List X) (n : ℕ) → m.0 ≡ first → m.1 ≡ [] → n ≡ length list → Allows Rule slots id m 1 (λ _. n) (λ _. opens list any m n)
  opens_turn slots id m list n is none_out long s k len at small =
      let f = fits s k id m.0 Vacant at (ap (λ (u : View X). u.role) is) in
      let log : List (ℕ × X) = numbered 0 list in
      let w : View X = opened list in
      let h : k.home ≡ some None = subst (λ (d : Desk). HomeFits stands value book d k.log k.home) f.0 k.home_fits in (
        w,
        takes 0 None,
        ap (λ (hs : List (maybe.Option (Option H))). get_elem? hs 0) k.homes ∙ ap some h,
        record {
          log = log;
          desk = level id;
          owner = k.owner;
          lock = k.lock;
          home = none;
          words = ap (λ (ws : List ℕ). slice_set ws 1 n) k.words ∙ ap (λ (c : ℕ). k.lock ∷ c ∷ []) (long ∙ sym (length-numbered 0 list));
          homes = ap (λ (hs : List (maybe.Option (Option H))). slice_set hs 0 none) k.homes;
          lock_fits = subst (λ (d : Desk). LockFits d k.lock) f.0 k.lock_fits;
          desk_fits = has_set s.views id Level m.0 w at refl;
          home_fits = refl;
          views_fit = fit_set s.views id w (level id) log k.owner (λ i v ne e. only v.role i id k.desk (level id) k.log log k.owner v f.0 ne (k.views_fit i v e)) (
            refl,
            record {
              seen = prefix_self log;
              told = (log, refl);
              opening = refl;
              own = of_other (suc id) 0 list (λ e. omega arith);
              own_seen = of_other (suc id) 0 list (λ e. omega arith);
              ended = tt;
              apart = (((λ e. omega arith), tt), (tt, tt));
              owner_is = f.1.owner_is;
            },
            sym (ap (λ (u : View X). u.number) is) ∙ f.2,
            refl,
          );
          whole = (id, w, at_self s.views id m.0 w at, inl refl);
          fresh = λ i le. (of_other (suc i) 0 list (λ e. omega arith), (freshly s k id w i le).1);
        },
        (refl, ap (λ (c : List (ℕ × Option H)). (0, None) ∷ c) none_out),
      )

  taken : (id : ℕ) (m : M) (f : ℕ → ℕ) (s : St) (k : Rule s) → get_elem? s.views id ≡ some m.0 → m.0.role ≡ Idle → 0 < f (slice_index s.words 0) → k.desk ≡ free
      → (w : View X) × (a : Act (Option H)) × Valid s.homes m.1 a × Rule (stepped s 0 (f (slice_index s.words 0)) id m.1 w a) × tries any m (slice_index s.words 0) (w, carried_after m.1 a)
  taken id m f s k at idle pos is =
      let g = fits s k id m.0 Idle at idle in
      let w : View X = as_role Holding m.0 in
      let zero_now : k.lock ≡ 0 = subst (λ (d : Desk). LockFits d k.lock) is k.lock_fits in
      let found : slice_index s.words 0 ≡ k.lock = ap (λ (ws : List ℕ). slice_index ws 0) k.words in (
        w,
        keeps,
        tt,
        record {
          log = k.log;
          desk = held id;
          owner = k.owner;
          lock = f (slice_index s.words 0);
          home = k.home;
          words = ap (λ (ws : List ℕ). slice_set ws 0 (f (slice_index s.words 0))) k.words;
          homes = k.homes;
          lock_fits = pos;
          desk_fits = has_set s.views id Holding m.0 w at refl;
          home_fits = subst (λ (d : Desk). HomeFits stands value book d k.log k.home) is k.home_fits;
          views_fit = fit_set s.views id w (held id) k.log k.owner
              (others_fit s.views id k.desk (held id) k.log k.log k.owner k.owner k.views_fit (subst (λ (d : Desk). By d id) (sym is) tt) tt (λ i v ne t. t))
              (refl, sits_as k.log k.owner id Holding m.0 g.1, g.2);
          whole = whole_set k.log s.views id m.0 w at (λ t. t) k.whole;
          fresh = freshly s k id w;
        },
        ((λ _. refl), (λ ne. absurd (ne (found ∙ zero_now))), refl),
      )

  missed : (id : ℕ) (m : M) (f : ℕ → ℕ) (s : St) (k : Rule s) → get_elem? s.views id ≡ some m.0 → 0 < k.lock → LockFits k.desk (f (slice_index s.words 0))
      → (w : View X) × (a : Act (Option H)) × Valid s.homes m.1 a × Rule (stepped s 0 (f (slice_index s.words 0)) id m.1 w a) × tries any m (slice_index s.words 0) (w, carried_after m.1 a)
  missed id m f s k at there pos =
      let found : slice_index s.words 0 ≡ k.lock = ap (λ (ws : List ℕ). slice_index ws 0) k.words in (
        m.0,
        keeps,
        tt,
        subst (λ (vs : List (View X)). Rule record { words = slice_set s.words 0 (f (slice_index s.words 0)); homes = s.homes; views = vs }) (sym (set_again s.views id m.0 at)) record {
          log = k.log;
          desk = k.desk;
          owner = k.owner;
          lock = f (slice_index s.words 0);
          home = k.home;
          words = ap (λ (ws : List ℕ). slice_set ws 0 (f (slice_index s.words 0))) k.words;
          homes = k.homes;
          lock_fits = pos;
          desk_fits = k.desk_fits;
          home_fits = k.home_fits;
          views_fit = k.views_fit;
          whole = k.whole;
          fresh = k.fresh;
        },
        ((λ z. absurd (omega arith)), (λ _. refl), refl),
      )

  -- the lock is tried: whatever is written says that it is held
  pub tries_lock : (slots id : ℕ) (m : M) (f : ℕ → ℕ) → ((n : ℕ) → 0 < f n) → m.0.role ≡ Idle → Allows Rule slots id m 0 f (tries any m)
  tries_lock slots id m f pos idle s k len at small =
      ⊎_elim
      (λ (is : k.desk ≡ free). taken id m f s k at idle (pos (slice_index s.words 0)) is)
      (λ (h : (0 < k.lock) × LockFits k.desk (f (slice_index s.words 0))). missed id m f s k at h.0 h.1)
      (by_desk k.desk k.lock (f (slice_index s.words 0)) k.lock_fits (pos (slice_index s.words 0)))

  pub reads_count : (slots id : ℕ) (m : M) → m.0.role ≡ Holding → Allows Rule slots id m 1 (λ n. n) (reads stands value book any m)
  reads_count slots id m is s k len at small =
      let f = fits s k id m.0 Holding at is in
      let h : HomeFits stands value book (held id) k.log k.home = subst (λ (d : Desk). HomeFits stands value book d k.log k.home) f.0 k.home_fits in
      let w : View X = read k.log m.0 in (
        w,
        takes 0 h.0,
        ap (λ (hs : List (maybe.Option (Option H))). get_elem? hs 0) k.homes ∙ ap some h.1,
        record {
          log = k.log;
          desk = level id;
          owner = k.owner;
          lock = k.lock;
          home = none;
          words = ap (λ (ws : List ℕ). slice_set ws 1 (slice_index ws 1)) k.words;
          homes = ap (λ (hs : List (maybe.Option (Option H))). slice_set hs 0 none) k.homes;
          lock_fits = subst (λ (d : Desk). LockFits d k.lock) f.0 k.lock_fits;
          desk_fits = has_set s.views id Level m.0 w at refl;
          home_fits = refl;
          views_fit = fit_set s.views id w (level id) k.log k.owner
              (others_fit s.views id k.desk (level id) k.log k.log k.owner k.owner k.views_fit (subst (λ (d : Desk). By d id) (sym f.0) refl) tt (λ i v ne t. t)) (
                refl,
                record {
                  seen = prefix_self k.log;
                  told = f.1.told;
                  opening = refl;
                  own = f.1.own;
                  own_seen = f.1.own;
                  ended = f.1.ended;
                  apart = f.1.apart;
                  owner_is = f.1.owner_is;
                },
                f.2,
                refl,
              );
          whole = (id, w, at_self s.views id m.0 w at, inl refl);
          fresh = freshly s k id w;
        },
        (k.log, h.0, refl, refl, h.2, f.1.seen, sym f.1.opening, accounts k.log k.owner id m.0 f.1 f.2, ap (λ (ws : List ℕ). slice_index ws 1) k.words),
      )

  pub raises_count : (slots id : ℕ) (m : M) (list : List X) (n : ℕ) → m.0.role ≡ Level → n ≡ length m.0.seen + length list → Allows Rule slots id m 1 (λ _. n) (raises list any m)
  raises_count slots id m list n is more s k len at small =
      let f = fits s k id m.0 Level at is in
      let log : List (ℕ × X) = k.log ++ numbered (suc id) list in
      let w : View X = raised list m.0 in
      let same : m.0.seen ++ numbered m.0.number list ≡ log =
      ap (λ (l : List (ℕ × X)). l ++ numbered m.0.number list) f.3 ∙ ap (λ (c : ℕ). k.log ++ numbered c list) f.2 in
      let own : of (suc id) log ≡ m.0.mine ++ list = of_own (suc id) k.log list ∙ ap (λ (l : List X). l ++ list) f.1.own in
      let seen_long : length m.0.seen ≡ length k.log = ap length f.3 in
      let long : n ≡ length log =
      (let a = length-append k.log (numbered (suc id) list) in let b = length-numbered (suc id) list in omega arith) in
      let bound = at_bound s.views id m.0 at in (
        w,
        keeps,
        tt,
        record {
          log = log;
          desk = level id;
          owner = k.owner;
          lock = k.lock;
          home = k.home;
          words = ap (λ (ws : List ℕ). slice_set ws 1 n) k.words ∙ ap (λ (c : ℕ). k.lock ∷ c ∷ []) long;
          homes = k.homes;
          lock_fits = subst (λ (d : Desk). LockFits d k.lock) f.0 k.lock_fits;
          desk_fits = has_set s.views id Level m.0 w at is;
          home_fits = subst (λ (d : Desk). HomeFits stands value book d k.log k.home) f.0 k.home_fits;
          views_fit = fit_set s.views id w (level id) log k.owner
              (others_fit s.views id k.desk (level id) k.log log k.owner k.owner k.views_fit (subst (λ (d : Desk). By d id) (sym f.0) refl) tt
              (λ i v ne t. sits_longer k.log k.owner id list i v f.1.owner_is ne t))
              (subst (λ (r : Role). FitsAs r (level id) log k.owner id w) (sym is) (
                refl,
                record {
                  seen = ([], append-nil (m.0.seen ++ numbered m.0.number list) ∙ same);
                  told = prefix_trans m.0.told k.log log f.1.told (numbered (suc id) list, refl);
                  opening = ap (of 0) same;
                  own = own;
                  own_seen = ap (of (suc id)) same ∙ own;
                  ended = every_both (λ (e : ℕ × List X). (of e.0 k.log ≡ e.1) × (k.owner e.0 ≡ id)) (λ (e : ℕ × List X). e.0 ≢ suc id) (λ (e : ℕ × List X). (of e.0 log ≡ e.1) × (k.owner e.0 ≡ id)) m.0.ended
                      (λ e h ne. (of_behind e.0 (suc id) k.log list (λ q. ne (sym q)) ∙ h.0, h.1)) f.1.ended (number_every (λ c. c ≢ suc id) m.0.ended f.1.apart.1.0);
                  apart = f.1.apart;
                  owner_is = f.1.owner_is;
                },
                f.2,
                same,
              ));
          whole = (id, w, at_self s.views id m.0 w at, inl same);
          fresh = λ i le. let h = freshly s k id w i le in let l = length-set s.views id w in
              (of_behind (suc i) (suc id) k.log list (λ q. omega arith) ∙ h.0, h.1);
        },
        (refl, refl, ap (λ (ws : List ℕ). slice_index ws 1) k.words ∙ sym seen_long, (id, f.2)),
      )

  pub gives_lock : (slots id : ℕ) (m : M) (slot : Option H) → m.0.role ≡ Level → m.1 ≡ (0, slot) ∷ [] → Stocked stands value book m.0.seen slot
      → Allows Rule slots id m 0 (λ _. 0) (gives_back any m)
  gives_lock slots id m slot is out stock s k len at small =
      let f = fits s k id m.0 Level at is in
      let w : View X = as_role Idle m.0 in (
        w,
        gives,
        tt,
        record {
          log = k.log;
          desk = free;
          owner = k.owner;
          lock = 0;
          home = some slot;
          words = ap (λ (ws : List ℕ). slice_set ws 0 0) k.words;
          homes = ap (λ (c : List (ℕ × Option H)). put_back s.homes c) out ∙ ap (λ (hs : List (maybe.Option (Option H))). slice_set hs 0 (some slot)) k.homes;
          lock_fits = refl;
          desk_fits = tt;
          home_fits = (slot, refl, subst (λ (l : List (ℕ × X)). Stocked stands value book l slot) f.3 stock);
          views_fit = fit_set s.views id w free k.log k.owner
              (others_fit s.views id k.desk free k.log k.log k.owner k.owner k.views_fit (subst (λ (d : Desk). By d id) (sym f.0) refl) tt (λ i v ne t. t))
              (tt, sits_as k.log k.owner id Idle m.0 f.1, f.2);
          whole = (id, w, at_self s.views id m.0 w at, inl f.3);
          fresh = freshly s k id w;
        },
        (refl, refl),
      )

  pub shuts_turn : (slots id : ℕ) (m : M) (n : ℕ) → m.0.role ≡ Level → m.1 ≡ (0, None) ∷ [] → 0 < n → Allows Rule slots id m 0 (λ _. n) (λ _. shuts any m n)
  shuts_turn slots id m n is out pos s k len at small =
      let f = fits s k id m.0 Level at is in
      let w : View X = as_role Shut m.0 in (
        w,
        gives,
        tt,
        record {
          log = k.log;
          desk = shut id;
          owner = k.owner;
          lock = n;
          home = some None;
          words = ap (λ (ws : List ℕ). slice_set ws 0 n) k.words;
          homes = ap (λ (c : List (ℕ × Option H)). put_back s.homes c) out ∙ ap (λ (hs : List (maybe.Option (Option H))). slice_set hs 0 (some None)) k.homes;
          lock_fits = pos;
          desk_fits = has_set s.views id Shut m.0 w at refl;
          home_fits = refl;
          views_fit = fit_set s.views id w (shut id) k.log k.owner
              (others_fit s.views id k.desk (shut id) k.log k.log k.owner k.owner k.views_fit (subst (λ (d : Desk). By d id) (sym f.0) refl) tt (λ i v ne t. t))
              (refl, sits_as k.log k.owner id Shut m.0 f.1, f.2);
          whole = (id, w, at_self s.views id m.0 w at, inl f.3);
          fresh = freshly s k id w;
        },
        (refl, refl),
      )
