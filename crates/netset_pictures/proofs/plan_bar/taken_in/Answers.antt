use Rattle.netset_pictures.proofs.plan_bar.taken_in.Goals as goal

pub returns : goal.returns
returns c = λ x.
    let planned = c.in_ok-planned.ensures.members x in
    let free = c.in_ok-free.ensures.members x in
    let block = c.in_ok-block.ensures x in
    let taken = c.in_ok-taken.ensures.members x in (
      λ member.
          let (in_block, not_free) = taken.0 member in
          record {
            in_frame = block.0 in_block;
            taken = λ rest. not_free (free.1 (rest.0, λ m. rest.1 (planned.0 m)));
          },
      λ is_taken. taken.1 (
        block.1 is_taken.in_frame,
        λ f. let (in_set, not_planned) = free.0 f in is_taken.taken (in_set, λ m. not_planned (planned.1 m)),
      ),
    )
