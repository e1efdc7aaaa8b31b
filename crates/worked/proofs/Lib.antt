mod Tested
