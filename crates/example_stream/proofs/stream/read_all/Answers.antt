use Rattle.std.proofs.Common.{map, rules}
use Rattle.std.specs.List.{AllByRecursion}
use Rattle.tinyvec_borsh.specs.Reading.{MayBe}
use Rattle.example_stream.specs.Readings.{ReadingFits, said}
use Rattle.example_stream.specs.Stream.{BeginsWith, StandsBehind}
use Rattle.example_stream.proofs.CutStreams.{gives-cut}
use Rattle.example_stream.proofs.WholeStreams.{gives-all}
use Rattle.example_stream.proofs.stream.read_all.Goals as goal

pub returns-clause-all : goal.returns-clause-all
returns-clause-all g c =
    let read = map said c.read_records-end.new.records.items in
    let fit_read : AllByRecursion ReadingFits (map said c.read_records-end.new.records.items) = search rules in
    let stands : MayBe (g.R.Read.remaining c.args.reader.now.inner) (BeginsWith (map said c.read_records-end.new.records.items) (StandsBehind c.read_records-end.result)) = search rules in
    λ cs bytes tail end fit spelled is known.
    gives-all _ _ cs read fit fit_read end c.read_records-end.result _ bytes tail spelled is known c.read_records-end.ensures.fault stands

pub returns-clause-cut : goal.returns-clause-cut
returns-clause-cut g c =
    let read = map said c.read_records-end.new.records.items in
    let fit_read : AllByRecursion ReadingFits (map said c.read_records-end.new.records.items) = search rules in
    let stands : MayBe (g.R.Read.remaining c.args.reader.now.inner) (BeginsWith (map said c.read_records-end.new.records.items) (StandsBehind c.read_records-end.result)) = search rules in
    λ cs front back fit spelled known.
    gives-cut _ _ cs read fit fit_read c.read_records-end.result _ front back spelled known c.read_records-end.ensures.fault stands
