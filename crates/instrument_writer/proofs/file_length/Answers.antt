-- By cases on the two counts.
use Rattle.instrument_writer.specs.Pieces.{counted_length}
use borrow.Author.Tests.{le-leb, lt-leb}
use Rattle.instrument_writer.proofs.file_length.Goals as goal

pub returns-then-keys-gt16 : goal.returns-then-keys-gt16
unfolding counted_length
returns-then-keys-gt16 c = rw (lt-leb c.args.keys 16 c.if-keys-gt16.true)

pub returns-then-strings-gt32 : goal.returns-then-strings-gt32
unfolding counted_length
returns-then-strings-gt32 c = rw (le-leb c.args.keys 16 c.if-keys-gt16.false, lt-leb c.args.strings 32 c.if-strings-gt32.true)

pub returns : goal.returns
unfolding counted_length
returns c = rw (le-leb c.args.keys 16 c.if-keys-gt16.false, le-leb c.args.strings 32 c.if-strings-gt32.false)
