-- What is left of a source, by its kind.
use Rattle.lt_cursor.specs.declared.source.Kind.{Kind}
use Rattle.lt_cursor.specs.declared.source.Kind.TheVariants.{Tablet, Memory}
use Rattle.lt_cursor.specs.Strands.{Strand, strand_in_memory}

module _ {V Dir Lent Pen Reader : Type 0} where
  abbrev pub strand_of_kind : Kind V Dir Lent Pen Reader → Strand
  strand_of_kind (Tablet strand) = strand
  strand_of_kind (Memory recs) = strand_in_memory recs
