use Rattle.std.proofs.Common.{rules, subst}
use Rattle.sync_stream.specs.Stream.{IsFaultyAt}
use Rattle.sync_stream.proofs.Stands.{faulty_line}
use Rattle.sync_stream.proofs.reader.Reader.pass_one.Goals as goal

pub returns-in-Err-clause-passes : goal.returns-in-Err-clause-passes
returns-in-Err-clause-passes c =
    let now = c.args.self.now in (
      search rules,
      subst (λ k. IsFaultyAt k.kind k.number k.place k.rest c.in-Err.fault) c.self.view_is
          (faulty_line c.self.inside.kind c.self.inside.number c.self.inside.place c.self.inside.rest c.in-Some.at
          c.in-Err.fault (search rules) c.in-Some.ensures.found (search rules)),
    )
