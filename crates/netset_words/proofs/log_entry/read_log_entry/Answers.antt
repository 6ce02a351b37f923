use Rattle.netset_words.proofs.log_entry.read_log_entry.Goals as goal

pub returns-in-Some-clause-some : goal.returns-in-Some-clause-some
returns-in-Some-clause-some c =
    let place = c.in-Some.place in
    let found = c.in-Some.ensures in (
      place.text.now,
      found.is,
      c.entry_as.ensures c.args.request.grammar place.text.now found.entry found.kind,
    )

pub returns-in-None-clause-none : goal.returns-in-None-clause-none
returns-in-None-clause-none c = c.in-None.ensures
