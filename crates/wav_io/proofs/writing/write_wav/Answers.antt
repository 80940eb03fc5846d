use Rattle.wav_io.proofs.Files.{one_content, read_back}
use Rattle.wav_io.proofs.writing.write_wav.Goals as goal

pub returns-clause-one : goal.returns-clause-one
returns-clause-one c = one_content c.args.wav.now c.write_file.result c.write_file.ensures.file c.write_file.ensures.fits

pub returns-clause-back : goal.returns-clause-back
returns-clause-back c = read_back c.args.wav.now c.write_file.result c.write_file.ensures.file c.write_file.ensures.fits
