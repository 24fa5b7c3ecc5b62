use Rattle.std.proofs.Common.{◌≡◌, ◌+◌, ◌++◌, ◌∷◌, List, [], take, map, sym, ap, subst, ◌∙◌, arith}
use Rattle.std.specs.Prelude.{All}
use Rattle.std.specs.Arc.{arc_value}
use Rattle.std.proofs.lemmas.Result.{err_from_is_err_and}
use Rattle.std.proofs.lemmas.List.Elements.{All-push}
use Rattle.lt_tablet.specs.Loaded.{Loaded}
use Rattle.lt_loading.specs.Found.{all_found, noted_of, IsSound}
use Rattle.lt_loading.proofs.Finding.{found_more, found_stops, taken_more, mapped_more, made}
use Rattle.lt_loading.proofs.tablets.load_tablets.Goals as goal

pub returns-in_err-tablet-clause-exact : goal.returns-in_err-tablet-clause-exact
returns-in_err-tablet-clause-exact g c = λ honest.
    let p = err_from_is_err_and c.from_residual.result c.from_residual.ensures.1 in
    rw (p.1, p.2) (found_stops c.args.schemas.now c.args.anchor.now.directory.seen.files c.args.listed.now c.loop-entry.entry-index (map noted_of (map arc_value c.loop-entry.tablets.items)) c.entry-item.result c.in_err-tablet.field-0.0
    c.loop-entry-test.true c.entry-item.is (c.loop-entry.invariant.found honest) (c.in_err-tablet.ensures.exact honest))

pub loop-entry-preserved : goal.loop-entry-preserved
loop-entry-preserved g c =
    let files = c.args.anchor.now.directory.seen.files in
    let entry = c.entry-item.result in
    let t : Loaded = c.in_ok-tablet.tablet in
    let ts : List Loaded = map arc_value c.loop-entry.tablets.items in
    let all : List Loaded = map arc_value c.push.new.self.items in
    let more : all ≡ ts ++ t ∷ [] = mapped_more arc_value c.loop-entry.tablets.items c.push.new.self.items c.in_ok-new.field-0 c.in_ok-push.ensures.items ∙ ap (λ (x : Loaded). ts ++ x ∷ []) c.in_ok-new.ensures.ok in
    let taken : take (c.loop-entry.entry-index + 1) c.args.listed.now ≡ take c.loop-entry.entry-index c.args.listed.now ++ entry ∷ [] = taken_more c.args.listed.now c.loop-entry.entry-index entry c.loop-entry-test.true c.entry-item.is in
    record {
      listed = mapped_more (λ (x : Loaded). x.listed) ts all t more ∙ (λ j. c.loop-entry.invariant.listed j ++ c.in_ok-tablet.ensures.listed j ∷ []) ∙ sym taken;
      found = λ honest. ap (all_found c.args.schemas.now files) taken
          ∙ found_more c.args.schemas.now files (take c.loop-entry.entry-index c.args.listed.now) (map noted_of ts) entry (noted_of t) (c.loop-entry.invariant.found honest) (c.in_ok-tablet.ensures.exact honest)
          ∙ ap made (sym (mapped_more noted_of ts all t more));
      sound = λ honest. subst (All (IsSound c.args.schemas.now files)) (sym more) (All-push (IsSound c.args.schemas.now files) ts t (c.loop-entry.invariant.sound honest) (c.in_ok-tablet.ensures.sound honest));
      later = omega (arith, c.loop-entry.invariant.later, c.in_ok-tablet.ensures.cause.later);
    }
