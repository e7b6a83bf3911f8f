-- `fill_setting` meets its contract: C and U as values.
use Rattle.ask_settings.proofs.line.fill_setting.Goals as goal

pub kernel_vector-requires : goal.kernel_vector-requires
kernel_vector-requires c = rw (c.stored-u.ensures, c.stored-order.ensures) c.requires

pub returns : goal.returns
returns c = rw (c.stored-u.ensures, c.stored-order.ensures) at c.kernel_vector.ensures
