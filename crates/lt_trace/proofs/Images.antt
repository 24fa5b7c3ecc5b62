-- What possible images open to.
use Rattle.std.proofs.Common.{ℕ, List, refl, sym, subst}
use Rattle.lt_io.specs.Directory.{State, Image, Fits}
use Rattle.lt_rec.specs.Record.{Record}
use Rattle.lt_schema.specs.Shapes.{SchemaShape}
use Rattle.lt_desc.specs.Shape.{StoneShape}
use Rattle.lt_model.specs.Readings.{rows}
use Rattle.lt_model.specs.Legal.{AreRising}
use Rattle.lt_model.specs.Crash.{durable_rows}
use Rattle.lt_trace.specs.Opens.{durable_by, IsWhole}
use Rattle.lt_trace.specs.Laws.{BackedOpens}
use Rattle.lt_trace.proofs.Rows.{is_durable, rows_rise, rising_kept}

pub whole_in : (recs : ℕ → List Record) (state : State) (image : Image) (stone : StoneShape) → Fits image state → IsWhole recs state.files stone → IsWhole recs image.files stone
whole_in recs state image stone fits whole = record {
  lawful = whole.lawful;
  read = whole.read;
  files_are = λ listed among. let f = whole.files_are listed among in record { bytes = f.bytes; there = fits.entered listed.file f.bytes f.there; is = f.is };
  rows_are = whole.rows_are;
  apart = whole.apart;
}

pub backed_opens : BackedOpens
backed_opens h recs state image stone legal backed fits descriptor = record {
  stone = stone;
  found = record { schemas = stone.schemas; ttl = stone.ttl; low = stone.low; next = stone.kept; kept = stone.kept; rows = durable_rows h (durable_by stone) };
  opens = record {
    spelled = descriptor;
    recs = recs;
    whole = whole_in recs state image stone fits backed.whole;
    schemas = refl;
    ttl = refl;
    low = refl;
    next = refl;
    kept = refl;
    rising = subst (λ (schema : SchemaShape). AreRising schema (durable_rows h (durable_by stone))) (sym backed.holds.first)
        (rising_kept h.opening.schemas.first (is_durable h (durable_by stone)) (rows h) (rows_rise h legal));
    rows = backed.holds.exactly;
  };
  crash = record { schemas = refl; ttl = refl; low = refl; next = refl; kept = refl; rows_left = refl };
  given = backed.given;
}
