-- It is noted from which number on files are free.
use Rattle.std.proofs.Common.{◌≡◌, ℕ, ◌+◌, ◌≤◌, Bool, List, [], ◌∷◌, ◌++◌, Contains, refl, sym, ◌∙◌, ap, subst, ⊎_elim, arith, length-append}
use Rattle.std.proofs.lemmas.Bool.{cases_lt}
use Rattle.std.proofs.lemmas.List.{append-nil}
use Rattle.lt_model.specs.History.{History}
use Rattle.lt_trace.specs.Elements.{Noted, Began, Element, entry, held, free, history_of, notes_of, grown}
use Rattle.lt_trace.proofs.Lists.{first_in, later_in}
use Rattle.lt_state.specs.State.{Core}
use Rattle.lt_state.specs.Facts.{IsSafe}
use Rattle.lt_state.specs.Stands.{Reads, LentSince, AreBelow, AreTickets, Stands, frees_in, RiseTo}
use Rattle.lt_state.proofs.Growing.{grown_history, grown_notes, files_used-append, frees_in-append}
use Rattle.lt_events.specs.Cores.{with_freed}
use Rattle.lt_events.specs.Laws.{SpentStands, SpentIsNoted}

rise_one_more : (least : ℕ) (numbers : List ℕ) (end more : ℕ) → end ≤ more → RiseTo least numbers end → RiseTo least (numbers ++ more ∷ []) (more + 1)
rise_one_more least [] end more up rises = (omega (arith, rises, up), refl)
rise_one_more least (number ∷ numbers) end more up rises = (rises.0, rise_one_more (number + 1) numbers end more up rises.1)

rises_up : (least : ℕ) (numbers : List ℕ) (end : ℕ) → RiseTo least numbers end → least ≤ end
rises_up least [] end rises = omega (arith, rises)
rises_up least (number ∷ numbers) end rises = omega (arith, rises.0, rises_up (number + 1) numbers end rises.1)

-- the last of the numbers is right below the end
last_is_there : (least last : ℕ) (es : List Element) → least ≤ last → RiseTo least (frees_in es) (last + 1) → Contains es (free last)
last_is_there least last [] below rises = absurd (omega (arith, below, rises))
last_is_there least last (entry e ∷ es) below rises = later_in (entry e) es (free last) (last_is_there least last es below rises)
last_is_there least last (held note ∷ es) below rises = later_in (held note) es (free last) (last_is_there least last es below rises)
last_is_there least last (free number ∷ es) below rises = ⊎_elim
    (λ lower. later_in (free number) es (free last) (last_is_there (number + 1) last es (omega (arith, lower)) rises.1))
    (λ high. let up = rises_up (number + 1) (frees_in es) (last + 1) rises.1 in
    let same : number ≡ last = omega (arith, up, high) in
    subst (λ (n : ℕ). Contains (free number ∷ es) (free n)) same (first_in (free number) es))
    (cases_lt number last)

module _ (told : Bool) (c : Core) (h : History) (notes : List Noted) (began : Began) (since : List Element) (stands : Stands told c h notes began since) (fresh : c.freed ≤ c.next_file) where
  abbrev grown_since : List Element
  grown_since = since ++ free c.next_file ∷ []

  files_freed : AreBelow (with_freed c) notes grown_since
  files_freed = record {
    ceiling = stands.files.ceiling;
    noted = stands.files.noted;
    named = stands.files.named;
    frees = subst (λ (ns : List ℕ). RiseTo 0 ns (c.next_file + 1)) (sym (frees_in-append since (free c.next_file ∷ []))) (rise_one_more 0 (frees_in since) c.freed c.next_file fresh stands.files.frees);
    freed = omega arith;
    most = stands.files.most;
  }

  lent_freed : LentSince told (with_freed c) began grown_since
  lent_freed =
      let lent : LentSince told c began since = stands.lent in
      record { more = lent.more; lends = lent.lends; next_file = lent.next_file; none = lent.none; some = lent.some; used = omega (arith, lent.used, files_used-append since (free c.next_file ∷ [])) }

  pub stands_freed : Stands told (with_freed c) h notes began grown_since
  stands_freed =
      let own = stands.own.2 in
      let reads : Reads c h = stands.reads in
      let safe : IsSafe told c h notes began = stands.safe in
      let tickets : AreTickets c notes = stands.tickets in
      record {
        reads = record { next_is = reads.next_is; low_is = reads.low_is; ttl_is = reads.ttl_is; schemas_are = reads.schemas_are; kept_is = reads.kept_is; next_tablet_is = reads.next_tablet_is };
        opened = stands.opened;
        follows = stands.follows;
        memory = stands.memory;
        tablets = stands.tablets;
        dependencies = stands.dependencies;
        own = (stands.own.0, stands.own.1, record { kept = own.kept; low = own.low; ttl = own.ttl; schemas = own.schemas; tablets = own.tablets });
        some = stands.some;
        listed = stands.listed;
        once = stands.once;
        lent = lent_freed;
        files = files_freed;
        tickets = record {
          rising = tickets.rising;
          below = tickets.below;
          once = tickets.once;
          lent = λ ticket file out covers. let is = tickets.lent ticket file out covers in record { below = is.below; unnoted = is.unnoted; unnamed = is.unnamed };
          apart = tickets.apart;
          handed = tickets.handed;
        };
        count_is = omega (arith, stands.count_is, length-append since (free c.next_file ∷ []));
        safe = record { recs = safe.recs; noted = safe.noted; tablets = safe.tablets; facts = safe.facts; legal = safe.legal; begun = safe.begun; past = safe.past };
      }

pub spent_stands : SpentStands
spent_stands told c s stands fresh =
    let more : List Element = free c.next_file ∷ [] in
    let all = stands_freed told c (history_of s) (notes_of s) s.began s.since stands fresh in
    let same_history : history_of (grown s more) ≡ history_of s = grown_history s more ∙ ap (λ es. record { opening = s.opening; entries = es }) (append-nil (history_of s).entries) in
    subst (λ (h : History). Stands told (with_freed c) h (notes_of (grown s more)) s.began (grown s more).since) (sym same_history)
    (subst (λ (ns : List Noted). Stands told (with_freed c) (history_of s) ns s.began (grown s more).since) (sym (grown_notes s more ∙ append-nil (notes_of s))) all)

pub spent_is_noted : SpentIsNoted
spent_is_noted told c s stands above =
    let one : c.freed ≡ c.next_file + 1 = omega (arith, above, stands.files.freed) in
    last_is_there 0 c.next_file s.since (omega arith) (subst (RiseTo 0 (frees_in s.since)) one stands.files.frees)
