use Rattle.std.proofs.Common.{ap, ◌∙◌, List, [], ◌∷◌, ◌++◌, ℕ}
use Rattle.std.specs.Prelude.{Option}
use Rattle.std.specs.Option.{option_map}
use Rattle.std.proofs.lemmas.Result.{on_ok_weaker}
use Rattle.lt_rec.specs.Record.{stem_of}
use Rattle.lt_layout.specs.Spelling.{differs}
use Rattle.lt_layout.specs.Surveying.{Found}
use Rattle.lt_layout.proofs.Stems.{found_by, hashes_next}
use Rattle.lt_layout.proofs.survey.Survey.add.Goals as goal

pub returns : goal.returns
returns c = on_ok_weaker c.add.result (λ more recs r k t s before old.
    let found = c.self.view_is ∙ old in
    found_by (recs ++ r ∷ []) c.add.new.self c.note_stem.new.hashes.items (more recs r (ap (λ (f : Found). f.totals) found) t s)
    (hashes_next recs r (stem_of c.args.key.now) c.is_new.result c.self.inside.hashes.items c.note_stem.new.hashes.items (ap stem_of k) (c.is_new.ensures ∙ ap (λ (o : Option (List ℕ)). differs (option_map stem_of o) (stem_of c.args.key.now)) before) (ap (λ (f : Found). f.hashes) found) c.in_ok-note_stem.ensures)) c.add.ensures.ok
