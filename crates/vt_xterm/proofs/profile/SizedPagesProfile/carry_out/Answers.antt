use Rattle.vt_xterm.proofs.profile.SizedPagesProfile.carry_out.Goals as goal

pub carry_out_wide-requires-clause-one_size : goal.carry_out_wide-requires-clause-one_size
carry_out_wide-requires-clause-one_size c = c.requires.one_size.1.of_size
